pub mod Reasons
pub mod Tables
pub mod Tapes
pub mod Terms
pub mod Trees
