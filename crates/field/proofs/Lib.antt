pub mod FieldLemmas
mod Division
