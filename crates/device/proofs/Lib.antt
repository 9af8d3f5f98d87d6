pub mod BenchCases
mod BufferRefusals
pub mod Cuts
mod RangeCases
mod Refusals
mod Taking
pub mod Took
mod Turning
mod Turns
