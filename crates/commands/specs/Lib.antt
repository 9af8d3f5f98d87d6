pub mod Reactions
pub mod Shown
