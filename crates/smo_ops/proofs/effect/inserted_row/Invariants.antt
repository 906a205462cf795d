use Rattle.std.proofs.Common.{◌≡◌, All, map, take}
use Rattle.prima_base.specs.Columns.{IsValid}
use Rattle.prima_base.specs.Order.{shown, IsBorrowed}
use Rattle.smo_ops_spec.specs.OneRow.{row_of}
use Rattle.smo_ops.proofs.effect.inserted_row.Given as goal

abbrev pub invariant-loop-column : goal.invariant-loop-column
invariant-loop-column l = record {
  row : map shown l.values.items ≡ row_of (take l.column-index l.columns) l.cells;
  valid : All (λ v. IsValid (shown v)) l.values.items;
  borrowed : All IsBorrowed l.values.items;
}
