pub mod ProfileA
