pub mod Hmac
pub mod Keyed
