pub mod Printed
pub mod Reached
