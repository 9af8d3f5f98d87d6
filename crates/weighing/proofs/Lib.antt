pub mod InForce
pub mod Reach
