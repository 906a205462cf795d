use Rattle.std.proofs.Common.{length}
use Rattle.rewrite_rules_book.proofs.book.+all_known.Given as goal

abbrev pub decreases-all_known : goal.decreases-all_known
decreases-all_known g l = length l.rules.now
