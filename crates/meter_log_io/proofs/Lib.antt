pub mod Sizes
pub mod InParts
pub mod Ran
