pub mod Parts
pub mod ServerWrote
pub mod Offers
