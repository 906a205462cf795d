pub mod KeptRows
pub mod AlikeChoices
pub mod MadeFollow
pub mod WholeAgree
pub mod MadeAgree
pub mod OneTells
pub mod PairTells
pub mod OperatorTells
pub mod EachName
pub mod LawOfLosses
pub mod Fillings
pub mod Undoing
pub mod PlainAlike
pub mod WholeWays
pub mod NoFilling
mod WorkedLosses
mod WorkedMembers
