-- The related pairs of places are those of the related entries.
use Rattle.std.specs.Prelude.{◌≡◌, ℕ, ◌<◌, ◌≤◌, ◌+◌, ◌*◌, Bool, true, false, cond, List, [], ◌∷◌}
use Rattle.std.specs.Prelude.{◌++◌, length, map}
use Rattle.std.specs.List.{filter, flat_map}
use Rattle.std.proofs.Common.{refl, sym, ap, subst, ◌∙◌, get_or, suc, zero, arith}
use Rattle.std.proofs.lemmas.List.{map-append, length-append}
use Rattle.relations_spec.specs.Spans.{Span}
use Rattle.relations_spec.specs.Timed.{Entry}
use Rattle.prima_base.specs.declared.value.Value.{Value}
use Rattle.prima_base.specs.declared.timed_row.TimedRow.{TimedRow}
use Rattle.prima_base.specs.Timed.{entry_of, entries_of}
use Rattle.temporal_lang_types.specs.declared.relation.Relation.{Relation}
use Rattle.period_join.specs.Relations.{relates}
use Rattle.period_join.specs.Pairs.{with_each, pairs_from, related}
use Rattle.period_join.specs.RelatedEntries.{related_to, related_entries, entries_at}

abbrev Both : Type 0
Both = Entry (List Value) × Entry (List Value)

module _ (relation : Relation) (d : TimedRow) (f : ℕ × ℕ → Both) where
  with_shown : (i : ℕ) (e : Entry (List Value)) (j : ℕ) (right : List TimedRow)
      → ((k : ℕ) → k < length right → f (i, j + k) ≡ (e, entry_of (get_or right k d)))
      → map f (with_each relation i e.period j right)
      ≡ related_to relation (entries_of right) e
  with_shown i e j [] h = refl
  with_shown i e j (q ∷ right) h =
      let none : j + 0 ≡ j = omega arith in
      let first : f (i, j) ≡ (e, entry_of q) = subst (λ (n : ℕ). f (i, n) ≡ (e, entry_of q)) none
      (h 0 (omega arith)) in
      let more = with_shown i e (j + 1) right (λ k l.
      let next : j + suc k ≡ (j + 1) + k = omega arith in
      subst (λ (n : ℕ). f (i, n) ≡ (e, entry_of (get_or right k d))) next
      (h (suc k) (omega arith))) in
      step (relates relation e.period q.period) first more
    where
      step : (b : Bool) → f (i, j) ≡ (e, entry_of q)
          → map f (with_each relation i e.period (j + 1) right)
          ≡ related_to relation (entries_of right) e
          → map f (cond b ((i, j) ∷ with_each relation i e.period (j + 1) right)
          (with_each relation i e.period (j + 1) right))
          ≡ map (λ (g : Entry (List Value)). (e, g)) (cond b
          (entry_of q ∷ filter (λ g. relates relation e.period g.period) (entries_of right))
          (filter (λ g. relates relation e.period g.period) (entries_of right)))
      step true first more = ap (λ (x : Both). x ∷ map f (with_each relation i e.period (j + 1)
          right)) first ∙ ap (λ (xs : List Both). (e, entry_of q) ∷ xs) more
      step false first more = more

  pairs_shown : (i : ℕ) (left right : List TimedRow)
      → ((k j : ℕ) → k < length left → j < length right
      → f (i + k, j) ≡ (entry_of (get_or left k d), entry_of (get_or right j d)))
      → map f (pairs_from relation i left right)
      ≡ flat_map (related_to relation (entries_of right)) (entries_of left)
  pairs_shown i [] right h = refl
  pairs_shown i (p ∷ left) right h =
      let here : i + 0 ≡ i = omega arith in
      let first = with_shown i (entry_of p) 0 right (λ k l.
      let none : 0 + k ≡ k = omega arith in
      subst (λ (n : ℕ). f (i, n) ≡ (entry_of p, entry_of (get_or right k d))) (sym none)
      (subst (λ (n : ℕ). f (n, k) ≡ (entry_of p, entry_of (get_or right k d))) here
      (h 0 k (omega arith) l))) in
      let more = pairs_shown (i + 1) left right (λ k j a b.
      let next : i + suc k ≡ (i + 1) + k = omega arith in
      subst (λ (n : ℕ). f (n, j) ≡ (entry_of (get_or left k d), entry_of (get_or right j d))) next
      (h (suc k) j (omega arith) b)) in
      map-append f (with_each relation i p.period 0 right) (pairs_from relation (i + 1) left right)
      ∙ ap (λ (xs : List Both). xs ++ map f (pairs_from relation (i + 1) left right)) first
      ∙ ap (λ (xs : List Both). related_to relation (entries_of right) (entry_of p) ++ xs) more

pub entries_related : (relation : Relation) (left right : List TimedRow) (d : TimedRow)
    → map (entries_at d left right) (related relation left right)
    ≡ related_entries relation (entries_of left) (entries_of right)
entries_related relation left right d =
    pairs_shown relation d (entries_at d left right) 0 left right (λ k j a b.
    let same : 0 + k ≡ k = omega arith in
    ap (λ (n : ℕ). (entry_of (get_or left n d), entry_of (get_or right j d))) same)

-- how many there can be
with_few : (relation : Relation) (i : ℕ) (p : Span) (j : ℕ) (right : List TimedRow)
    → length (with_each relation i p j right) ≤ length right
with_few relation i p j [] = omega arith
with_few relation i p j (q ∷ right) = step (relates relation p q.period)
    (with_few relation i p (j + 1) right)
  where
    step : (b : Bool) → length (with_each relation i p (j + 1) right) ≤ length right
        → length (cond b ((i, j) ∷ with_each relation i p (j + 1) right)
        (with_each relation i p (j + 1) right)) ≤ suc (length right)
    step true h = omega (arith, h)
    step false h = omega (arith, h)

pairs_few : (relation : Relation) (i : ℕ) (left right : List TimedRow)
    → length (pairs_from relation i left right) ≤ length left * length right
pairs_few relation i [] right = omega arith
pairs_few relation i (p ∷ left) right =
    let a = with_few relation i p.period 0 right in
    let b = pairs_few relation (i + 1) left right in
    let c = length-append (with_each relation i p.period 0 right)
    (pairs_from relation (i + 1) left right) in
    omega (arith, a, b, c)

pub related_few : (relation : Relation) (left right : List TimedRow)
    → length (related relation left right) ≤ length left * length right
related_few relation left right = pairs_few relation 0 left right
