pub mod Runs
pub mod Readings
pub mod Added
pub mod Long
pub mod Count
pub mod Cases
