use Rattle.std.proofs.Common.{drop}
use Rattle.smo_ops_spec.specs.ValidValues.{CellsHold}
use Rattle.smo_ops.proofs.count.meet_cells.Given as goal

abbrev pub invariant-loop-value : goal.invariant-loop-value
invariant-loop-value l = CellsHold (drop l.value-index l.cells) → CellsHold l.cells
