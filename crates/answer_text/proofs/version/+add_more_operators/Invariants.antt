use Rattle.std.proofs.Common.{length}
use Rattle.answer_text.proofs.version.+add_more_operators.Given as goal

abbrev pub decreases-add_more_operators : goal.decreases-add_more_operators
decreases-add_more_operators l = length l.ops.now
