pub mod Claimed
pub mod Clearing
pub mod Ending
pub mod Entering
pub mod Exact
pub mod Fits
mod Levels
pub mod Nodes
pub mod PartPlaces
pub mod Parts
pub mod Passing
pub mod Sheet
pub mod Showing
pub mod Trees
