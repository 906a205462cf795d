pub mod ChoiceLaws
pub mod Answered
pub mod NearRows
pub mod LevelLaws
pub mod CoalescedRows
pub mod RunLaws
