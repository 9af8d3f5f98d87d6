mod Filling
pub mod Seeds
