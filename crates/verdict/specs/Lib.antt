pub mod Claims
pub mod Faults
pub mod Judging
pub mod Sharing
pub mod Sheet
pub mod Uses
