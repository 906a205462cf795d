-- What proofs above need of queries, passed on.
pub use Rattle.query_exec.proofs.FoundDead.{are_pieces}
