-- The pairs of places at which two lists have periods that are related.
use Rattle.std.specs.Prelude.{ℕ, ◌+◌, ◌≡◌, ◌<◌, List, [], ◌∷◌, ◌++◌, true, drop, length}
use Rattle.std.specs.Prelude.{if◌then◌else◌, slice_index_or, Option, Some, None}
use Rattle.std.specs.Ordering.{nat_cmp, ordering_then}
use Rattle.std.specs.declared.cmp.Ordering.{Ordering}
use Rattle.relations_spec.specs.Spans.{Span}
use Rattle.prima_base.specs.declared.timed_row.TimedRow.{TimedRow}
use Rattle.temporal_lang_types.specs.declared.relation.Relation.{Relation}
use Rattle.period_join.specs.declared.pairs.Pairs.TheInside.{Inside}
use Rattle.period_join.specs.Relations.{relates}

-- a place on the left, with each place on the right, from this one on, of a period that is related
abbrev pub with_each : Relation → ℕ → Span → ℕ → List TimedRow → List (ℕ × ℕ)
with_each relation i p j [] = []
with_each relation i p j (q ∷ right) = if relates relation p q.period
    then (i, j) ∷ with_each relation i p (j + 1) right else with_each relation i p (j + 1) right

-- the pairs of the left places from this one on
abbrev pub pairs_from : Relation → ℕ → List TimedRow → List TimedRow → List (ℕ × ℕ)
pairs_from relation i [] right = []
pairs_from relation i (p ∷ left) right = with_each relation i p.period 0 right
    ++ pairs_from relation (i + 1) left right

-- all related pairs of places, by the left place, then the right one
abbrev pub related : Relation → List TimedRow → List TimedRow → List (ℕ × ℕ)
related relation left right = pairs_from relation 0 left right

-- those that are left where so many places on the left are done, and so many on the right with the
-- next one on the left
abbrev pub with_rest : Relation → ℕ → ℕ → List TimedRow → List TimedRow → List (ℕ × ℕ)
with_rest relation i j [] right = []
with_rest relation i j (p ∷ left) right = with_each relation i p.period j (drop j right)
    ++ pairs_from relation (i + 1) left right

abbrev pub left_to_give : Inside → List (ℕ × ℕ)
left_to_give a = with_rest a.relation a.place a.next (drop a.place a.left.now.items)
    a.right.now.items

-- what is handed out next, and what is left then: None exactly behind the last
abbrev pub IsNext : List (ℕ × ℕ) → Option (ℕ × ℕ) → List (ℕ × ℕ) → Type 0
IsNext before None after = (before ≡ []) × (after ≡ [])
IsNext before (Some pair) after = before ≡ pair ∷ after

-- ---- the law

-- by the left place, then the right one
abbrev pub place_cmp : ℕ × ℕ → ℕ × ℕ → Ordering
place_cmp a b = ordering_then (nat_cmp a.0 b.0) (nat_cmp a.1 b.1)

-- a place on the left and one on the right whose periods stand in the relation
abbrev pub IsPair : Relation → List TimedRow → List TimedRow → ℕ × ℕ → Type 0
IsPair relation left right pair = (d : TimedRow) → (pair.0 < length left) × (pair.1 < length right)
    × (relates relation (slice_index_or left pair.0 d).period
    (slice_index_or right pair.1 d).period ≡ true)
