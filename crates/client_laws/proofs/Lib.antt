pub mod Invoke
pub mod Broadcast
pub mod Chain
pub mod Reply
pub mod Alone
pub mod Passes
pub mod Uncommitted
pub mod Calls
