pub mod NameLaws
pub mod PlainRows
pub mod PartLaws
pub mod ReadLaws
pub mod PushedParts
pub mod OneRelation
pub mod WorkedReads
