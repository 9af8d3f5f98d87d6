pub mod Allowed
mod BelowZero
pub mod Digits
pub mod EveryNet
pub mod HalfStep
mod HalfUp
pub mod Machine
pub mod Matching
pub mod Monotone
pub mod Moves
pub mod Nearness
mod Nearest
pub mod Presets
mod Printable
mod Range
mod Remainders
pub mod Coarse
pub mod SignedPlaces
pub mod Sure
pub mod TypedLimit
pub mod Width
