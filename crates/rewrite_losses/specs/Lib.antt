pub mod TableLosses
pub mod NamedItems
