use Rattle.std.proofs.Common.{◌≡◌, take, map}
use Rattle.piece_ir_spec.specs.Views.{whole}
use Rattle.piece_ir.specs.Shown.{view_of}
use Rattle.piece_ir.proofs.choice.whole_tables.Given as goal

abbrev pub invariant-loop-atom : goal.invariant-loop-atom
invariant-loop-atom l = map view_of l.views.items ≡ map whole (take l.atom-index l.atoms)
