pub mod Answering
pub mod ListSteps
pub mod Steps
pub mod TreeSteps
