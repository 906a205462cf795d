use Rattle.std.proofs.Common.{◌≡◌, ◌<◌, ◌≤◌, ℕ, get_or, vec_len}
use Rattle.version_groups_changes.specs.PendingChanges.{Led, IsToldToo}
use Rattle.version_groups_changes.proofs.pending_row.tell_each.Given as goal

abbrev pub invariant-loop-k : goal.invariant-loop-k
invariant-loop-k l = record {
  long : vec_len l.led ≡ vec_len l.initial.led;
  done : (j : ℕ) (d : Led) → j < l.k → IsToldToo l.row l.told (get_or l.initial.led.items j d)
      (get_or l.led.items j d);
  rest : (j : ℕ) (d : Led) → l.k ≤ j → get_or l.led.items j d ≡ get_or l.initial.led.items j d;
}
