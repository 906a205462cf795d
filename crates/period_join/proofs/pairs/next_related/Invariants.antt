use Rattle.std.proofs.Common.{◌≡◌, ℕ, drop}
use Rattle.period_join.specs.Pairs.{with_each}
use Rattle.period_join.proofs.pairs.next_related.Given as goal

abbrev pub invariant-loop-place : goal.invariant-loop-place
invariant-loop-place l = (i : ℕ) → with_each l.relation i l.period l.from
    (drop l.from l.right.items)
    ≡ with_each l.relation i l.period l.place (drop l.place l.right.items)
