use Rattle.std.proofs.Common.{◌≡◌, map, take}
use Rattle.cond_expr.specs.Seen.{tree}
use Rattle.smo_ops_types.specs.Changes.{sets_of}
use Rattle.piece_ir_spec.specs.Pieces.{out_trees}
use Rattle.join_exec.proofs.piece.copy_trees.Given as goal

abbrev pub invariant-loop-out : goal.invariant-loop-out
invariant-loop-out l = map tree l.copied.items ≡ out_trees (sets_of (take l.out-index l.outs))
