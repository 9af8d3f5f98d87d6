pub mod Laying
pub mod StateLines
