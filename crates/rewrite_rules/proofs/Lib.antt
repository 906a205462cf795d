pub mod RuleLaw
pub mod LivingLaw
pub mod PairSteps
