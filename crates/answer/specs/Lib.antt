pub mod Commands
pub mod Lines
pub mod NameTable
