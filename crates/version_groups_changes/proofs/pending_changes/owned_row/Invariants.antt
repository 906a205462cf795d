use Rattle.std.proofs.Common.{◌≡◌, map, take}
use Rattle.prima_base.specs.Order.{shown}
use Rattle.version_groups_changes.proofs.pending_changes.owned_row.Given as goal

abbrev pub invariant-loop-value : goal.invariant-loop-value
invariant-loop-value l = l.owned.items ≡ map shown (take l.value-index l.values)
