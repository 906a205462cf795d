-- What entries hold at a moment.
use Rattle.std.specs.Prelude.{◌≡◌, ◌↔◌, ℕ, ◌<◌, ◌≤◌, Bool, true, false, cond, List, [], ◌∷◌}
use Rattle.std.proofs.Common.{refl, ap, ◌∙◌, inl, inr, arith}
use Rattle.std.specs.declared.cmp.Ordering.{Ordering}
use Rattle.std.proofs.lemmas.Bool.Decides.{nat_tests}
use Rattle.relations_spec.specs.Sets.{In, Ascends, IsExact}
use Rattle.relations_spec.specs.Spans.{Span, covers}
use Rattle.relations_spec.specs.Timed.{Entry, held_at, at}
use Rattle.relations_spec.specs.Listing.{Covered}
use Rattle.relations_spec.proofs.SetLaws.{in_set, from_set, set_ascends}

pub covers_is : (p : Span) (m : ℕ) → covers p m ≡ true ↔ ((p.start ≤ m) × (m < p.end))
covers_is p m = (
  λ e. (grind (arith, nat_tests), grind (arith, nat_tests)),
  λ h.
      grind (arith, nat_tests),
)

-- an entry of the list has the item and the moment
abbrev pub IsHeld : {X : Type 0} → List (Entry X) → X → ℕ → Type 0
IsHeld {X} entries x m = (e : Entry X) × In e entries × (e.item ≡ x) × (covers e.period m ≡ true)

pub from_held : {X : Type 0} (entries : List (Entry X)) (x : X) (m : ℕ) → In x (held_at entries m)
    → IsHeld entries x m
from_held [] x m h = absurd h
from_held {X} (e ∷ entries) x m h = step (from_held entries x m) (covers e.period m) refl h
  where
    more : IsHeld entries x m → IsHeld (e ∷ entries) x m
    more r = (r.0, inr r.1, r.2, r.3)

    step : (In x (held_at entries m) → IsHeld entries x m) → (b : Bool) → covers e.period m ≡ b
        → In x (cond b (e.item ∷ held_at entries m) (held_at entries m)) → IsHeld (e ∷ entries) x m
    step f true q (inl i) = (e, inl refl, i, q)
    step f true q (inr k) = more (f k)
    step f false q k = more (f k)

pub in_held : {X : Type 0} (entries : List (Entry X)) (x : X) (m : ℕ) (e : Entry X) → In e entries
    → e.item ≡ x → covers e.period m ≡ true → In x (held_at entries m)
in_held [] x m e k i c = absurd k
in_held {X} (f ∷ entries) x m e (inl k) i c =
    rw (ap (λ (w : Entry X). covers w.period m) k ∙ c) (inl (ap (λ (w : Entry X). w.item) k ∙ i))
in_held {X} (f ∷ entries) x m e (inr k) i c =
    elim (covers f.period m) as (λ b. In x (cond b (f.item ∷ held_at entries m)
    (held_at entries m))) [
      | true ↦ inr (in_held entries x m e k i c)
      | false ↦ in_held entries x m e k i c
    ]

pub in_at : {X : Type 0} (cmp : X → X → Ordering) (o : IsExact cmp) (entries : List (Entry X))
    (x : X) (m : ℕ)
    → In x (at cmp entries m) ↔ ((e : Entry X) × In e entries × (e.item ≡ x)
    × (covers e.period m ≡ true))
unfolding at
in_at cmp o entries x m = (
  λ h. from_held entries x m (from_set cmp o x (held_at entries m) h),
  λ h. in_set cmp o x (held_at entries m) (in_held entries x m h.0 h.1 h.2 h.3),
)

pub at_ascends : {X : Type 0} (cmp : X → X → Ordering) → IsExact cmp
    → (entries : List (Entry X)) (m : ℕ) → Ascends cmp (at cmp entries m)
unfolding at
at_ascends cmp o entries m = set_ascends cmp o (held_at entries m)

pub held_is_covered : {X : Type 0} (entries : List (Entry X)) (x : X) (m : ℕ)
    → IsHeld entries x m ↔ Covered entries x m
held_is_covered entries x m = (
  λ h. let c = (covers_is h.0.period m).0 h.3 in (h.0, h.1, h.2, c.0, c.1),
  λ h. (h.0, h.1, h.2, (covers_is h.0.period m).1 (h.3, h.4)),
)
