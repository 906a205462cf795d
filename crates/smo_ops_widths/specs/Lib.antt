pub mod Widths
pub mod Creating
pub mod Dead
pub mod Counted
pub mod Shown
pub mod AtHand
pub mod MeasureFaults
