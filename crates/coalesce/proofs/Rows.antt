-- Rows of different lengths differ, and what commutes with a map of a list.
use Rattle.std.proofs.Common.{◌≡◌, ℕ, Bool, true, false, List, [], ◌∷◌, length, refl}
use Rattle.std.proofs.Common.{ap, ◌∙◌, arith}
use Rattle.std.specs.Prelude.{map, max, cond}
use Rattle.relations_spec.specs.Spans.{Span, span}
use Rattle.prima_base.specs.declared.timed_row.TimedRow.{TimedRow}
use Rattle.std.specs.Ordering.{is_eq, ordering_then}
use Rattle.std.specs.declared.cmp.Ordering.{Ordering}
use Rattle.std.specs.declared.cmp.Ordering.TheVariants.{Less, Equal, Greater}
use Rattle.std.specs.Cmp.Lexicographic.{slice_cmp}
use Rattle.prima_base_rows.specs.Rows.{in_period}
use Rattle.coalesce.specs.Joining.{both, join_rows, into, merged}

pub other_length : {K : Type 0} (R : K → K → Ordering) (a b : List K) → (length a ≡ length b → ⊥)
    → false ≡ is_eq (slice_cmp R a b)
other_length R [] [] h = absurd (h refl)
other_length R [] (y ∷ b) h = refl
other_length R (x ∷ a) [] h = refl
other_length R (x ∷ a) (y ∷ b) h = step (R x y) (other_length R a b (λ e. h (omega arith)))
  where
    step : (r : Ordering) → false ≡ is_eq (slice_cmp R a b)
        → false ≡ is_eq (ordering_then r (slice_cmp R a b))
    step Less e = refl
    step Equal e = e
    step Greater e = refl

-- joins of a list, seen through a map
module _ {E F : Type 0} (f : E → F) (touch : E → E → Bool) (join : E → E → E) (touch' : F → F
    → Bool) (join' : F → F → F)
    (same_touch : (a b : E) → touch a b ≡ touch' (f a) (f b)) (same_join : (a b : E)
    → f (join a b) ≡ join' (f a) (f b)) where
  map_into : (rest : List E) (e : E) → map f (into touch join e rest)
      ≡ into touch' join' (f e) (map f rest)
  map_into [] e = refl
  map_into (g ∷ rest) e = rw (same_touch e g) (elim (touch' (f e) (f g)) as (λ b.
      map f (cond b (into touch join (join e g) rest) (e ∷ into touch join g rest))
      ≡ cond b (into touch' join' (join' (f e) (f g)) (map f rest))
      (f e ∷ into touch' join' (f g) (map f rest))) [
        | true ↦ map_into rest (join e g) ∙ ap (λ (h : F). into touch' join' h (map f rest))
            (same_join e g)
        | false ↦ ap (λ (l : List F). f e ∷ l) (map_into rest g)
      ])

  pub map_merged : (rows : List E) → map f (merged touch join rows)
      ≡ merged touch' join' (map f rows)
  map_merged [] = refl
  map_merged (e ∷ rest) = map_into rest e

-- a row that goes on to the later end
same_span : (p q : Span) → p.start ≡ q.start → p.end ≡ q.end → p ≡ q
same_span p q a b = ap (λ (s : ℕ). span s p.end) a ∙ ap (λ (t : ℕ). span q.start t) b

pub joined_row : (a b : TimedRow) (p : Span) → p.start ≡ a.period.start
    → p.end ≡ max a.period.end b.period.end → in_period a p ≡ join_rows a b
joined_row a b p from to = ap (in_period a) (same_span p (both a.period b.period) from to)
