-- What a list holds at a moment is the relation that it lists.
use Rattle.std.proofs.Common.{◌≡◌, ◌≤◌, ◌<◌, ℕ, true, false, List, [], ◌∷◌, refl, subst, inl, arith}
use Rattle.relations_spec.specs.Sets.{In, Ascends}
use Rattle.relations_spec.specs.Spans.{Span, covers}
use Rattle.relations_spec.specs.Timed.{Entry, at}
use Rattle.relations_spec.specs.Listing.{IsListing, Covered}
use Rattle.relations_spec.proofs.SetLaws.{one_list}
use Rattle.relations_spec.proofs.Held.{in_at, at_ascends, held_is_covered, covers_is}
use Rattle.prima_base.specs.declared.value.Value.{Value}
use Rattle.prima_base.specs.declared.timed_row.TimedRow.{TimedRow}
use Rattle.prima_base.specs.Order.{row_cmp}
use Rattle.prima_base.specs.OrderLaws.{row_exact}
use Rattle.prima_base.specs.Timed.{entries_of, rows_at}

pub listed_at : (relation : ℕ → List (List Value)) (slice : Span)
    (entries : List (Entry (List Value))) → IsListing row_cmp relation slice entries → (m : ℕ)
    → slice.start ≤ m → m < slice.end
    → Ascends row_cmp (relation m) → at row_cmp entries m ≡ relation m
listed_at relation slice entries h m a b ascends =
    one_list row_cmp row_exact (at row_cmp entries m) (relation m)
    (at_ascends row_cmp row_exact entries m) ascends (record {
      there = λ x k. there x ((held_is_covered entries x m).0
          ((in_at row_cmp row_exact entries x m).0 k));
      back = λ x k. (in_at row_cmp row_exact entries x m).1
          ((held_is_covered entries x m).1 (h.complete x m a b k));
    })
  where
    there : (x : List Value) → Covered entries x m → In x (relation m)
    there x c = subst (λ (y : List Value). In y (relation m)) c.2 ((h.each c.0 c.1).holds m c.3 c.4)

-- and outside the slice it holds nothing
nothing_in : (xs : List (List Value)) → ((x : List Value) → In x xs → ⊥) → xs ≡ []
nothing_in [] h = refl
nothing_in (x ∷ xs) h = absurd (h x (inl refl))

pub unlisted_at : (relation : ℕ → List (List Value)) (slice : Span)
    (entries : List (Entry (List Value))) → IsListing row_cmp relation slice entries → (m : ℕ)
    → covers slice m ≡ false
    → at row_cmp entries m ≡ []
unlisted_at relation slice entries h m out = nothing_in (at row_cmp entries m)
    (λ x k. none x ((held_is_covered entries x m).0 ((in_at row_cmp row_exact entries x m).0 k)))
  where
    none : (x : List Value) → Covered entries x m → ⊥
    none x c =
        let e = h.each c.0 c.1 in
        let from : slice.start ≤ m = (let a = e.from in let b = c.3 in omega (arith, a, b)) in
        let to : m < slice.end = (let a = e.to in let b = c.4 in omega (arith, a, b)) in
        let k = (covers_is slice m).1 (from, to) in
        absurd (cc)

pub same_at : (old new : List TimedRow) (slice : Span)
    → IsListing row_cmp (rows_at old) slice (entries_of new) → (m : ℕ) → covers slice m ≡ true
    → rows_at new m ≡ rows_at old m
same_at old new slice h m c =
    let k = (covers_is slice m).0 c in
    listed_at (rows_at old) slice (entries_of new) h m k.0 k.1
    (at_ascends row_cmp row_exact (entries_of old) m)
