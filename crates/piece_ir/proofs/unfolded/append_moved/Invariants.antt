use Rattle.std.proofs.Common.{◌≡◌, ◌++◌, drop, map}
use Rattle.cond_expr.specs.Seen.{test}
use Rattle.cond_expr.specs.Trees.{fill_test}
use Rattle.piece_ir_spec.specs.Unfolding.{moved_on}
use Rattle.piece_ir.proofs.unfolded.append_moved.Given as goal

abbrev pub invariant-loop-part : goal.invariant-loop-part
invariant-loop-part l = map test l.parts.items
    ++ map (fill_test (moved_on l.by)) (map test (drop l.part-index l.added))
    ≡ map test l.initial.parts.items ++ map (fill_test (moved_on l.by)) (map test l.added)
