pub mod Marks
pub mod Subtypes
