pub mod Answers
pub mod Atoms
pub mod Losing
pub mod Checking
pub mod Accepted
pub mod Resolved
pub mod PairFaults
pub mod AggregateFaults
