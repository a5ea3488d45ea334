pub mod Reading
pub mod Told
pub mod Log
