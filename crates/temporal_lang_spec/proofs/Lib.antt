pub mod Slicing
pub mod StageLaws
pub mod FirstLaws
pub mod ItemsLost
pub mod WayBackLaws
pub mod FillLaws
pub mod KnownLaws
pub mod BranchLaws
mod WorkedBranches
mod WorkedSelects
mod WorkedPast
mod WorkedWays
mod WorkedMerge
mod WorkedDecompose
pub mod AggregateFaultLaws
pub mod PairFaultLaws
