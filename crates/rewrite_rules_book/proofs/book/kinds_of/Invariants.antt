use Rattle.std.proofs.Common.{◌≡◌, map, take}
use Rattle.rewrite_rules_book.proofs.book.kinds_of.Given as goal

abbrev pub invariant-loop-rule : goal.invariant-loop-rule
invariant-loop-rule g l = l.kinds.items ≡ map g.R.Rule.handles (take l.rule-index l.rules)
