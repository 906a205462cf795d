-- What a relation that changes over time has, listed: each member with its longest periods inside a
-- slice.
use Rattle.std.specs.Prelude.{◌≡◌, ℕ, ◌-◌, ◌<◌, ◌≤◌, ◌⊎◌, List}
use Rattle.std.specs.Ordering.{nat_cmp, ordering_then}
use Rattle.std.specs.declared.cmp.Ordering.{Ordering}
use Rattle.relations_spec.specs.Sets.{In, Ascends}
use Rattle.relations_spec.specs.Spans.{Span}
use Rattle.relations_spec.specs.Timed.{Entry}

-- the item holds at each moment of its period, and the period is as long as the slice lets it be
pub record IsEntry {X : Type 0} (relation : ℕ → List X) (slice : Span) (e : Entry X) : Type 0 where
  pub lasting : e.period.start < e.period.end
  pub from : slice.start ≤ e.period.start
  pub to : e.period.end ≤ slice.end
  pub holds : (m : ℕ) → e.period.start ≤ m → m < e.period.end → In e.item (relation m)
  pub begins : (e.period.start ≡ slice.start) ⊎ (¬ In e.item (relation (e.period.start - 1)))
  pub ends : (e.period.end ≡ slice.end) ⊎ (¬ In e.item (relation e.period.end))

-- by item, then start
abbrev pub entry_cmp : {X : Type 0} → (X → X → Ordering) → Entry X → Entry X → Ordering
entry_cmp cmp a b = ordering_then (cmp a.item b.item) (nat_cmp a.period.start b.period.start)

-- an entry of the list has this item at this moment
abbrev pub Covered : {X : Type 0} → List (Entry X) → X → ℕ → Type 0
Covered {X} entries x m = (e : Entry X) × In e entries × (e.item ≡ x) × (e.period.start ≤ m)
    × (m < e.period.end)

-- the one list of what holds in the slice
pub record IsListing {X : Type 0} (cmp : X → X → Ordering) (relation : ℕ → List X) (slice : Span)
    (entries : List (Entry X)) : Type 0 where
  pub each : (e : Entry X) → In e entries → IsEntry relation slice e
  pub complete : (x : X) (m : ℕ) → slice.start ≤ m → m < slice.end → In x (relation m)
      → Covered entries x m
  pub ascending : Ascends (entry_cmp cmp) entries
