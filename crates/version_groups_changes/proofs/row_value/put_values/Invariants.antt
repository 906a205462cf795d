use Rattle.std.proofs.Common.{◌≡◌, ◌≤◌, ◌++◌, map, take, drop}
use Rattle.std.specs.Prelude.{All}
use Rattle.prima_base.specs.Columns.{IsValid}
use Rattle.prima_base.specs.Order.{shown}
use Rattle.version_groups_changes.proofs.row_value.put_values.Given as goal

abbrev pub invariant-loop-at : goal.invariant-loop-at
invariant-loop-at l = record {
  from : l.skip ≤ l.at;
  values : map shown l.values.items ≡ map shown l.fn.values.items ++ drop l.skip (take l.at l.row);
  valid : All (λ v. IsValid (shown v)) l.fn.values.items
      → All (λ v. IsValid (shown v)) l.values.items;
}
