use Rattle.std.proofs.Common.{length}
use Rattle.rewrite_rules_book.proofs.book.+rewrite_by.Given as goal

abbrev pub decreases-rewrite_by : goal.decreases-rewrite_by
decreases-rewrite_by g l = length l.rules.now
