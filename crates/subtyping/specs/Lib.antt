pub mod Letters
pub mod Meaning
pub mod Parting
pub mod Placing
pub mod Relating
