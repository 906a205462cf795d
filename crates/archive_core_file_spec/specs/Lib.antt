pub mod LogRecords
pub mod Opening
