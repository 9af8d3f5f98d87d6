pub mod Along
pub mod AnswerKinds
mod Answering
mod AnswersRead
mod Delivering
pub mod Demand3
mod DueWeights
mod EachCall
pub mod EndToEnd
pub mod FineOnly
mod Following
pub mod Grams
mod HostReads
mod InForce
pub mod OnChange
mod Performing
mod Pieces
mod Reacting
pub mod Rejected
mod SendsLine
mod SendsSample
mod SentAnswers
mod SentHeads
pub mod StandsFor
mod Stepping
mod Tallying
mod TypedLines
pub mod TypedTares
mod Verdicts
pub mod WaitsEnd
mod WaitsStep
mod WeightLines
