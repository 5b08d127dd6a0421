pub mod Rows
pub mod Worked
pub mod Written
