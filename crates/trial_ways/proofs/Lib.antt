pub mod Parts
pub mod Ring
pub mod Ways
pub mod ServerCalls
pub mod Reached
pub mod Shows
pub mod Offering
pub mod Passing
