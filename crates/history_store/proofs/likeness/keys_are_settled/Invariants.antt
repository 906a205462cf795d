use Rattle.std.proofs.Common.{◌≡◌, ◌<◌, ◌≤◌, ◌⊎◌, ℕ, get_or}
use Rattle.relations_spec.specs.Spans.{forever}
use Rattle.history_store_columns.specs.Keys.{no_span}
use Rattle.history_store.proofs.likeness.keys_are_settled.Given as goal

abbrev pub invariant-loop-id : goal.invariant-loop-id
invariant-loop-id l = (id : ℕ) → id < l.id → ((get_or l.keys id no_span).start ≤ l.moment)
    × (((get_or l.keys id no_span).end ≤ l.moment) ⊎ ((get_or l.keys id no_span).end ≡ forever))
