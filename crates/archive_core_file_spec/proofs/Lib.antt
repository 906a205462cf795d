pub mod RecordsOf
pub mod Histories
pub mod Records
pub mod Files
