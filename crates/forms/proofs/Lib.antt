pub mod Forming
pub mod Places
