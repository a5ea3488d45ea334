pub mod Operations
pub mod Messages
