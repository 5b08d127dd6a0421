pub mod Bytes
pub mod Depths
pub mod Judging
pub mod Layout
pub mod Lines
pub mod Rows
pub mod Verdicts
pub mod View
