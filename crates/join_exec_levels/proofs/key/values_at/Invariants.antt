use Rattle.std.proofs.Common.{◌≡◌, map, take}
use Rattle.prima_base.specs.Order.{shown, is_borrowed}
use Rattle.join_exec_spec.specs.Keeping.{values_at, lies_at}
use Rattle.join_exec_levels.proofs.key.values_at.Given as goal

abbrev pub invariant-loop-place : goal.invariant-loop-place
invariant-loop-place l = record {
  values : map shown l.picked.items ≡ values_at (take l.place-index l.places) (map shown l.values);
  same : map is_borrowed l.picked.items ≡ map (lies_at l.values) (take l.place-index l.places);
}
