use Rattle.std.proofs.Common.{◌≡◌, drop}
use Rattle.std.specs.List.{flat_map}
use Rattle.cond_expr.specs.Faults.{references}
use Rattle.smo_ops_types.specs.Changes.{sets_of}
use Rattle.piece_ir_spec.specs.Pieces.{out_trees}
use Rattle.piece_ir.specs.Substituting.{names_column}
use Rattle.piece_ir.proofs.reference.outputs_name.Given as goal

abbrev pub invariant-loop-out : goal.invariant-loop-out
invariant-loop-out l = names_column l.atom l.column
    (flat_map references (out_trees (sets_of l.outs)))
    ≡ names_column l.atom l.column (flat_map references
    (out_trees (sets_of (drop l.out-index l.outs))))
