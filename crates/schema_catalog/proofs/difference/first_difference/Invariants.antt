use Rattle.std.proofs.Common.{ℕ, List, T, drop}
use Rattle.std.specs.Prelude.{Option}
use Rattle.std.specs.FinMap.{is_sorted}
use Rattle.prima_base.specs.Order.{bytes_cmp}
use Rattle.schema_catalog.specs.Differences.{IsDifference}
use Rattle.schema_catalog.proofs.difference.first_difference.Given as goal

abbrev pub invariant-loop-i : goal.invariant-loop-i
invariant-loop-i l = record {
  tables : T (is_sorted bytes_cmp (drop l.i l.tables));
  others : T (is_sorted bytes_cmp (drop l.i l.others));
  rest : (o : Option (List ℕ)) → IsDifference (drop l.i l.tables) (drop l.i l.others) o
      → IsDifference l.tables l.others o;
}
