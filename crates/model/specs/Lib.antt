pub mod Groups
pub mod Profiles
pub mod Reaches
pub mod Refusals
pub mod Sendings
pub mod States
