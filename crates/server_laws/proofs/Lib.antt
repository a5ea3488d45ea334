pub mod Slots
pub mod State
pub mod Checks
pub mod Range
pub mod Sound
pub mod Calls
pub mod Awaiting
