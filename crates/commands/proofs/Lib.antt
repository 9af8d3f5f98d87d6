pub mod Bytes
mod LineVerdicts
pub mod StaysAllowed
pub mod Ways
