use Rattle.std.proofs.Common.{length}
use Rattle.answer_text.proofs.version.+add_versions.Given as goal

abbrev pub decreases-add_versions : goal.decreases-add_versions
decreases-add_versions l = length l.versions.now
