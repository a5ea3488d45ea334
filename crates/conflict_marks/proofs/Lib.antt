pub mod Stored
pub mod ByKind
pub mod Moved
pub mod Look
