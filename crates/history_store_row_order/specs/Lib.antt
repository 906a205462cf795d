pub mod Logs
pub mod Rows
pub mod Handing
pub mod Splices
pub mod Indexes
pub mod Cuts
