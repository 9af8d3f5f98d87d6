mod Between
mod Chosen
pub mod DecimalText
mod Ending
mod FieldText
pub mod FieldWidth
mod HighestFirst
pub mod Named
mod NumberText
mod Printing
pub mod ReadBack
pub mod Searching
pub mod TypedText
pub mod WriteBack
