pub mod Uses
pub mod Qubit
pub mod Tapes
