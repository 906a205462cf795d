use Rattle.std.proofs.Common.{◌≡◌, ◌+◌, drop}
use Rattle.smo_ops_spec.specs.First.{first_refusal}
use Rattle.smo_ops_spec.specs.Checks.{cell_faults}
use Rattle.smo_ops.proofs.check.check_cells.Given as goal

abbrev pub invariant-loop-i : goal.invariant-loop-i
invariant-loop-i l = first_refusal (cell_faults l.columns l.at l.cells)
    ≡ first_refusal (cell_faults l.columns (l.at + l.i) (drop l.i l.cells))
