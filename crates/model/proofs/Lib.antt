pub mod Conjunctions
pub mod InForce
pub mod Nets
pub mod ProfileFacts
mod Sizes
pub mod StateFacts
mod UnitsTested
