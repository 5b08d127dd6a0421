pub mod Fresh
mod Handed
mod Ran
mod Taken
