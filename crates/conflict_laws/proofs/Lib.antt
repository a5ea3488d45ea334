pub mod Cases
pub mod More
pub mod Elsewhere
