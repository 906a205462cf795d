-- Which items of a listing begin, and which end, at a moment.
use Rattle.std.specs.Prelude.{ℕ, ◌==◌, List, map}
use Rattle.std.specs.List.{filter}
use Rattle.relations_spec.specs.Timed.{Entry}

abbrev pub begun_at : {X : Type 0} → List (Entry X) → ℕ → List X
begun_at {X} entries m = map (λ (e : Entry X). e.item)
    (filter (λ (e : Entry X). e.period.start == m) entries)

abbrev pub ended_at : {X : Type 0} → List (Entry X) → ℕ → List X
ended_at {X} entries m = map (λ (e : Entry X). e.item)
    (filter (λ (e : Entry X). e.period.end == m) entries)
