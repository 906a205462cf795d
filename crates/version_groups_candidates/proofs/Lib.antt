pub mod RangeEnds
pub mod RangeLaws
pub mod FilterLaws
pub mod BetweenCuts
