pub mod Answering
pub mod FieldSteps
pub mod ListSteps
pub mod ListedItems
pub mod ReadSteps
pub mod TreeSteps
pub mod NumbersAtOnce
