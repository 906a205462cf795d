use Rattle.std.proofs.Common.{◌≡◌, take}
use Rattle.std.specs.Prelude.{not}
use Rattle.std.specs.List.{filter}
use Rattle.cond_expr.specs.Seen.{test}
use Rattle.smo_ops_spec.specs.OneRow.{meets}
use Rattle.smo_maps.proofs.partition_table.parted.Given as goal

abbrev pub invariant-loop-row : goal.invariant-loop-row
invariant-loop-row l = record {
  yes : l.yes.items ≡ filter (meets l.columns (test l.cond)) (take l.row-index l.rows);
  no : l.no.items ≡ filter (λ row. not (meets l.columns (test l.cond) row))
      (take l.row-index l.rows);
}
