mod Follows
pub mod Texts
pub mod Words
