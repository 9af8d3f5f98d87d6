pub mod Hex
pub mod Marked
pub mod Numbers
pub mod Orders
pub mod Settings
pub mod Words
