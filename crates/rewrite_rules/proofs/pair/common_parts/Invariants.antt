use Rattle.std.proofs.Common.{◌≡◌, map, take}
use Rattle.cond_expr.specs.Seen.{test}
use Rattle.piece_ir_spec.specs.OperatorViews.{common_names, in_both}
use Rattle.rewrite_rules.proofs.pair.common_parts.Given as goal

abbrev pub invariant-loop-name : goal.invariant-loop-name
invariant-loop-name l = map test l.tests.items
    ≡ map in_both (common_names (take l.name-index l.first) l.second)
