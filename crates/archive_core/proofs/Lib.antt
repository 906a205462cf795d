pub mod Committed
pub mod PreparedCommand
pub mod Held
pub mod Mounted
pub mod State
