use Rattle.std.proofs.Common.{length}
use Rattle.temporal_lang_types.proofs.query.+are_keeps.Given as goal

abbrev pub decreases-are_keeps : goal.decreases-are_keeps
decreases-are_keeps l = length l.keep.now
