-- Facts that a ghost field names. Nothing that a contract says is defined here.
pub mod Once
