pub mod Types
pub mod Cells
