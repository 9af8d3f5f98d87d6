pub mod Lengths
pub mod NameTable
pub mod Names
pub mod Rows
