pub mod Places
pub mod RoomLaws
pub mod Rows
pub mod GivenRows
