pub mod Checks
pub mod Lines
pub mod Machines
pub mod Parts
