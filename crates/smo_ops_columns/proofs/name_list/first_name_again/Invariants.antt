use Rattle.std.proofs.Common.{◌≡◌, ℕ, List, take, drop}
use Rattle.std.specs.BTreeSet.{contains}
use Rattle.prima_base.specs.Order.{bytes_cmp}
use Rattle.smo_ops_spec.specs.Preconditions.{among, again_after, first_again}
use Rattle.smo_ops_columns.proofs.name_list.first_name_again.Given as goal

abbrev pub invariant-loop-name : goal.invariant-loop-name
invariant-loop-name l = record {
  first : first_again l.names ≡ again_after (take l.name-index l.names) (drop l.name-index l.names);
  seen : (name : List ℕ) → contains bytes_cmp l.seen name ≡ among name (take l.name-index l.names);
}
