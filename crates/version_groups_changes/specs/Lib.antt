pub mod Changing
pub mod PendingChanges
pub mod PendingFields
