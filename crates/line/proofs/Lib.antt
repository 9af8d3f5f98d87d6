pub mod InCells
mod Joining
pub mod Kept
mod Parameters
pub mod PresetLines
pub mod Proper
mod Rows
pub mod Running
mod Scanning
pub mod TypedCases
pub mod Verdicts
