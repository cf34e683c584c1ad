-- Facts that an `impl` or a ghost field names. Nothing that a contract says is defined here.
pub mod Fits
pub mod Under
