pub mod Becoming
pub mod Applying
pub mod PendingLaws
pub mod LedRows
pub mod PendingWalks
pub mod PendingSteps
pub mod Differences
pub mod RowValues
