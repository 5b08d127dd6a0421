pub mod Called
pub mod Played
pub mod Settled
