use Rattle.std.proofs.Common.{length}
use Rattle.temporal_lang_types.proofs.query.+each_has_parts.Given as goal

abbrev pub decreases-each_has_parts : goal.decreases-each_has_parts
decreases-each_has_parts l = length l.branches.now
