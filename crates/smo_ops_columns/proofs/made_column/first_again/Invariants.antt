use Rattle.std.proofs.Common.{◌≡◌, ℕ, List, take, drop}
use Rattle.std.specs.BTreeSet.{contains}
use Rattle.prima_base.specs.Order.{bytes_cmp}
use Rattle.prima_base.specs.Columns.{names_of}
use Rattle.smo_ops_spec.specs.Preconditions.{among, again_after, first_again}
use Rattle.smo_ops_columns.proofs.made_column.first_again.Given as goal

abbrev pub invariant-loop-name : goal.invariant-loop-name
invariant-loop-name l = record {
  first : first_again (names_of l.columns) ≡ again_after (names_of (take l.name-index l.columns))
      (names_of (drop l.name-index l.columns));
  seen : (name : List ℕ) → contains bytes_cmp l.seen name
      ≡ among name (names_of (take l.name-index l.columns));
}
