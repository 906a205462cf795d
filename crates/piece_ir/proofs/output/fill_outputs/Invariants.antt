use Rattle.std.proofs.Common.{◌≡◌, take}
use Rattle.smo_ops_types.specs.Changes.{sets_of}
use Rattle.piece_ir_spec.specs.Unfolding.{filled_outs}
use Rattle.piece_ir.proofs.output.fill_outputs.Given as goal

abbrev pub invariant-loop-out : goal.invariant-loop-out
invariant-loop-out g l = sets_of l.filled.items
    ≡ filled_outs (g.F.Fill.puts l.by) (sets_of (take l.out-index l.outs))
