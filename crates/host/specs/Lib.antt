pub mod Frames
pub mod Reads
pub mod Refusals
pub mod Writes
