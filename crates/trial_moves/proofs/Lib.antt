pub mod Invoking
pub mod Delivering
