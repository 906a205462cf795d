pub mod LeastLoss
pub mod NamedColumns
pub mod AskedQuestions
pub mod PushedQuestions
pub mod ReadByPieces
pub mod Gatherings
pub mod RunPieces
pub mod OneVersion
