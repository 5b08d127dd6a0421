pub mod Constants
pub mod Sides
