pub mod Choosing
pub mod Keeping
pub mod Placing
pub mod Fitting
pub mod Answering
pub mod Blocks
pub mod BorrowedOutputs
