pub mod Exact
pub mod Going
pub mod Kept
pub mod Lists
pub mod Made
pub mod Names
pub mod Sample
pub mod Sound
pub mod Steps
pub mod Wants
pub mod Unsound
mod Refusals
mod Runs
