pub mod InForce
pub mod Samples
