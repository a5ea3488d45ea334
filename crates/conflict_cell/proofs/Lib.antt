pub mod First
pub mod Reach
pub mod Steps
