pub mod Cells
pub mod Runs
pub mod Steps
pub mod Verdicts
