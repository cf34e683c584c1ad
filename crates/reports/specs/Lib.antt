pub mod Texts
pub mod Reports
