use Rattle.std.proofs.Common.{◌≡◌, take}
use Rattle.std.specs.Prelude.{not}
use Rattle.std.specs.Ordering.{eq_by_cmp}
use Rattle.std.specs.FinMap.Entries.{where_key}
use Rattle.prima_base.specs.Order.{bytes_cmp}
use Rattle.schema_catalog.proofs.place.copy_without.Given as goal

abbrev pub invariant-loop-table : goal.invariant-loop-table
invariant-loop-table l = l.copied.items ≡ where_key bytes_cmp
    (λ n. not (eq_by_cmp bytes_cmp l.name n)) (take l.table-index l.tables)
