mod Completion
mod Counts
pub mod NoNotes
mod Readings
pub mod Satisfied
mod Strikes
