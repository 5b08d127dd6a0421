pub mod Applications
pub mod Nested
pub mod Places
pub mod Programs
