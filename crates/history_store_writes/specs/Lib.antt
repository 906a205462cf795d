pub mod Logs
pub mod RowRoom
pub mod Writing
pub mod ValueIndexes
