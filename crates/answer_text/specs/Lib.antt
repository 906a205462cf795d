pub mod Causes
pub mod Gathering
pub mod KeptValues
pub mod RefusalTexts
pub mod Texts
pub mod SessionTexts
pub mod PieceTexts
