pub mod NextText
pub mod NextValue
pub mod LongerTexts
pub mod BoundLaws
pub mod Thresholds
pub mod DeadLaws
pub mod LowerBoundLaws
pub mod EarlierLaws
pub mod PartLists
pub mod PartSteps
mod WorkedRows
