pub mod Rows
pub mod Worked
