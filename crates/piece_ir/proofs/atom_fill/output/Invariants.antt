use Rattle.std.proofs.Common.{◌≡◌, drop}
use Rattle.smo_ops_types.specs.Changes.{sets_of}
use Rattle.piece_ir_spec.specs.Views.{out_of}
use Rattle.piece_ir.proofs.atom_fill.output.Given as goal

abbrev pub invariant-loop-out : goal.invariant-loop-out
invariant-loop-out l = out_of (sets_of l.outs) l.name
    ≡ out_of (sets_of (drop l.out-index l.outs)) l.name
