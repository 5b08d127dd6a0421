pub mod Playing
pub mod Settled
pub mod Stages
pub mod Turns
