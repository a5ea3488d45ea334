pub mod Layout
pub mod Message
pub mod Content
pub mod Readers
