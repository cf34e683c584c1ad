pub mod Hours
pub mod Laws
pub mod Sessions
pub mod Ends
