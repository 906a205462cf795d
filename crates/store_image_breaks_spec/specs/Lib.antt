pub mod Agreement
pub mod Drafts
pub mod Breaks
