pub mod Shots
pub mod Sums
