mod Branches
mod Confirming
mod Frames
mod Guessing
pub mod Inverse
mod Named
mod Outcomes
mod Shapes
mod Texts
