pub mod Brackets
pub mod Calculus
pub mod Leaves
pub mod Terms
pub mod Types
