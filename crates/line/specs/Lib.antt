pub mod Judging
pub mod Parts
pub mod Receiving
pub mod Runs
pub mod Unbounded
