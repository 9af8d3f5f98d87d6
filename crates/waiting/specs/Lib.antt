pub mod Changes
pub mod Parts
pub mod Waits
