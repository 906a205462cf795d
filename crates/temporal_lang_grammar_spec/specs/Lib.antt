pub mod QueryGrammar
pub mod QueryReader
pub mod QueryOverflows
pub mod AggregateGrammar
pub mod AggregateReader
