pub mod Reporting
pub mod Written
pub mod Heads
pub mod WorkSpaces
