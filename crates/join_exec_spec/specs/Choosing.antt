-- Choices of one row of each of several lists, made list by list: a choice is its rows, one after
-- the other.
use Rattle.std.specs.Prelude.{◌≡◌, ℕ, Bool, false, List, [], ◌∷◌, ◌++◌, map, length, Option, Some}
use Rattle.std.specs.Prelude.{None, if◌then◌else◌}
use Rattle.std.specs.List.{flat_map, filter}
use Rattle.relations_spec.specs.Sets.{In}
use Rattle.relations_spec.specs.Spans.{Span, common}
use Rattle.relations_spec.specs.Timed.{Entry}

-- the choice with each of the rows after
abbrev pub with_each : {V : Type 0} → List V → List (List V) → List (List V)
with_each {V} p ys = map (λ (y : List V). p ++ y) ys

-- each choice with each of the rows after, and with those alone that are kept beside it
abbrev pub extend_choices : {V : Type 0} → List (List V) → List (List V) → List (List V)
extend_choices {V} ps ys = flat_map (λ (p : List V). with_each p ys) ps

abbrev pub extended_where : {V : Type 0} → (List V → List V → Bool) → List (List V) → List (List V)
    → List (List V)
extended_where {V} keep ps ys = flat_map (λ (p : List V). with_each p (filter (keep p) ys)) ps

-- the choices with a row of each further list after
abbrev pub complete_choices : {V : Type 0} → List (List V) → List (List (List V)) → List (List V)
complete_choices ps [] = ps
complete_choices ps (ys ∷ rest) = complete_choices (extend_choices ps ys) rest

-- no choice that begins with these rows passes
abbrev pub Hopeless : {V : Type 0} → (List V → Bool) → List V → Type 0
Hopeless {V} met p = (c : List V) → met (p ++ c) ≡ false

-- each of them has so many values
abbrev pub Wide : {V : Type 0} → ℕ → List (List V) → Type 0
Wide {V} n xs = (x : List V) → In x xs → length x ≡ n

-- what is not kept beside a choice of so many values leads to nothing that passes
abbrev pub IsSound : {V : Type 0} → (List V → Bool) → ℕ → ℕ → (List V → List V → Bool) → Type 0
IsSound {V} met n w keep = (p y : List V) → length p ≡ n → length y ≡ w → keep p y ≡ false
    → Hopeless met (p ++ y)

-- ---- over time

abbrev pub in_period : {V : Type 0} → List V → Option Span → List (Entry (List V))
in_period x None = []
in_period x (Some s) = record { item = x; period = s } ∷ []

-- a choice with a row after, in their common moments
abbrev pub pair : {V : Type 0} → Entry (List V) → Entry (List V) → List (Entry (List V))
pair p y = in_period (p.item ++ y.item) (common p.period y.period)

abbrev pub paired : {V : Type 0} → (List V → List V → Bool) → Entry (List V) → Entry (List V)
    → List (Entry (List V))
paired keep p y = if keep p.item y.item then pair p y else []

abbrev pub pairs : {V : Type 0} → (List V → List V → Bool) → List (Entry (List V))
    → List (Entry (List V)) → List (Entry (List V))
pairs {V} keep ps ys = flat_map (λ (p : Entry (List V)). flat_map (paired keep p) ys) ps
