pub mod LivingUnfoldings
