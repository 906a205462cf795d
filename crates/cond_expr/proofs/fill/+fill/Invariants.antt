use Rattle.std.proofs.Common.{◌≡◌, map, take}
use Rattle.cond_expr.specs.Trees.{fill, fill_test}
use Rattle.cond_expr.specs.Seen.{tree, test}
use Rattle.cond_expr.proofs.fill.+fill.Given as goal

abbrev pub invariant-fill_conds-loop-part : goal.invariant-fill_conds-loop-part
invariant-fill_conds-loop-part g l = map test l.filled.items
    ≡ map (fill_test (g.F.Fill.puts l.by)) (map test (take l.part-index l.parts))

abbrev pub invariant-fill_exprs-loop-part : goal.invariant-fill_exprs-loop-part
invariant-fill_exprs-loop-part g l = map tree l.filled.items
    ≡ map (fill (g.F.Fill.puts l.by)) (map tree (take l.part-index l.parts))
