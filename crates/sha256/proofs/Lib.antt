pub mod Padding
pub mod Blocks
pub mod Examples
