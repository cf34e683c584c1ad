mod Appends
pub mod Begins
pub mod Cuts
pub mod Digits
pub mod Exact
mod Ends
mod Exits
pub mod Fronts
pub mod Opened
mod Turns
