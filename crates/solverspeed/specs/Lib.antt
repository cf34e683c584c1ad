pub mod Answers
pub mod Hours
pub mod Steps
