pub mod Reply
pub mod Lists
