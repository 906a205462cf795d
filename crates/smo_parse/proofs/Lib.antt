pub mod OperatorCorrectness
pub mod After
pub mod SeveralTests
mod WorkedTexts
mod WorkedOperators
pub mod Spellings
pub mod Spelled
pub mod PrintedTrees
pub mod PrintedParts
pub mod PrintedOperators
pub mod PrintThenRead
pub mod OperatorTokens
pub mod OperatorCounted
pub mod OperatorCountSizes
pub mod OperatorLongest
pub mod StillThere
