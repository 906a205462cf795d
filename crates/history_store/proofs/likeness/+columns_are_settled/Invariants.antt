use Rattle.std.proofs.Common.{length}
use Rattle.history_store.proofs.likeness.+columns_are_settled.Given as goal

abbrev pub decreases-columns_are_settled : goal.decreases-columns_are_settled
decreases-columns_are_settled l = length l.columns.now
