pub mod Components
pub mod Pairing
pub mod Parted
pub mod Places
pub mod Reaching
pub mod Related
