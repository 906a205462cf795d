-- The related pairs of entries are all of them, each once.
use Rattle.std.specs.Prelude.{◌≡◌, Bool, true, false, cond, List, [], ◌∷◌, map}
use Rattle.std.specs.List.{filter}
use Rattle.std.specs.Cmp.{nat_cmp_is}
use Rattle.std.specs.Ordering.{nat_cmp, ordering_then}
use Rattle.std.specs.declared.cmp.Ordering.{Ordering}
use Rattle.std.specs.declared.cmp.Ordering.TheVariants.{Less, Equal, Greater}
use Rattle.std.proofs.Common.{refl, sym, ap, subst, ◌∙◌}
use Rattle.relations_spec.specs.Listing.{entry_cmp}
use Rattle.relations_spec.specs.Sets.{In, Ascends}
use Rattle.relations_spec.specs.Timed.{Entry}
use Rattle.relations_spec.proofs.SetLaws.{in_map, from_map, in_filter, from_filter, in_flat_map}
use Rattle.relations_spec.proofs.SetLaws.{from_flat_map, before_in, below_each, ascends_append}
use Rattle.prima_base.specs.Order.{row_cmp}
use Rattle.prima_base.specs.OrderLaws.{row_exact}
use Rattle.prima_base.specs.declared.value.Value.{Value}
use Rattle.temporal_lang_types.specs.declared.relation.Relation.{Relation}
use Rattle.period_join.specs.Relations.{relates}
use Rattle.period_join.specs.RelatedEntries.{related_to, related_entries, pair_cmp, AreRelated}

abbrev One : Type 0
One = Entry (List Value)

-- ---- the order of entries and of pairs

same_row : (row : List Value) → row_cmp row row ≡ Equal
same_row row = step (row_cmp row row) refl
  where
    step : (r : Ordering) → row_cmp row row ≡ r → row_cmp row row ≡ Equal
    step Less e = absurd (row_exact.apart row e)
    step Equal e = e
    step Greater e = absurd (row_exact.apart row (row_exact.turn row row e))

same_entry : (e : One) → entry_cmp row_cmp e e ≡ Equal
same_entry e = ap (λ r. ordering_then r (nat_cmp e.period.start e.period.start)) (same_row e.item)
    ∙ sym (nat_cmp_is e.period.start e.period.start Equal refl)

by_left : (e f g h : One) → entry_cmp row_cmp e g ≡ Less → pair_cmp (e, f) (g, h) ≡ Less
by_left e f g h l = ap (λ r. ordering_then r (entry_cmp row_cmp f h)) l

by_right : (e f h : One) → entry_cmp row_cmp f h ≡ Less → pair_cmp (e, f) (e, h) ≡ Less
by_right e f h l = ap (λ r. ordering_then r (entry_cmp row_cmp f h)) (same_entry e) ∙ l

module _ (relation : Relation) where
  abbrev is_with : One → One → Bool
  is_with e f = relates relation e.period f.period

  -- ---- all pairs, and no others

  in_related : (left right : List One) (e f : One) → In e left → In f right → is_with e f ≡ true
      → In (e, f) (related_entries relation left right)
  in_related left right e f a b so = in_flat_map (related_to relation right) e (e, f) left a
      (in_map (λ (g : One). (e, g)) f (filter (is_with e) right)
      (in_filter (is_with e) f right b so))

  from_related : (left right : List One) (e f : One)
      → In (e, f) (related_entries relation left right)
      → In e left × In f right × (is_with e f ≡ true)
  from_related left right e f m =
      let h = from_flat_map (related_to relation right) (e, f) left m in
      let k = from_map (λ (g : One). (h.0, g)) (e, f) (filter (is_with h.0) right) h.2 in
      let r = from_filter (is_with h.0) k.0 right k.1 in
      let one : h.0 ≡ e = ap (λ (p : One × One). p.0) k.2 in
      let two : k.0 ≡ f = ap (λ (p : One × One). p.1) k.2 in (
        subst (λ (x : One). In x left) one h.1,
        subst (λ (x : One). In x right) two r.0,
        sym (λ i. is_with (one i) (two i)) ∙ r.1,
      )

  -- ---- each once

  with_ascends : (e : One) (right : List One) → Ascends (entry_cmp row_cmp) right
      → Ascends pair_cmp (related_to relation right e)
  with_ascends e [] a = tt
  with_ascends e (f ∷ right) a = step (is_with e f) (with_ascends e right a.1)
    where
      first : (p : One × One) → In p (related_to relation right e) → pair_cmp (e, f) p ≡ Less
      first p m =
          let k = from_map (λ (g : One). (e, g)) p (filter (is_with e) right) m in
          ap (pair_cmp (e, f)) (sym k.2) ∙ by_right e f k.0
          (before_in (entry_cmp row_cmp) f k.0 right a.0 (from_filter (is_with e) k.0 right k.1).0)

      step : (b : Bool) → Ascends pair_cmp (related_to relation right e)
          → Ascends pair_cmp (map (λ (g : One). (e, g))
          (cond b (f ∷ filter (is_with e) right) (filter (is_with e) right)))
      step true r = (below_each pair_cmp (e, f) (related_to relation right e) first, r)
      step false r = r

  related_ascends : (left right : List One) → Ascends (entry_cmp row_cmp) left
      → Ascends (entry_cmp row_cmp) right
      → Ascends pair_cmp (related_entries relation left right)
  related_ascends [] right a b = tt
  related_ascends (e ∷ left) right a b = ascends_append pair_cmp (related_to relation right e)
      (related_entries relation left right) (with_ascends e right b)
      (related_ascends left right a.1 b)
      (λ p q m n.
      let k = from_map (λ (g : One). (e, g)) p (filter (is_with e) right) m in
      let h = from_flat_map (related_to relation right) q left n in
      let l = from_map (λ (g : One). (h.0, g)) q (filter (is_with h.0) right) h.2 in
      sym (λ i. pair_cmp (k.2 i) (l.2 i)) ∙ by_left e k.0 h.0 l.0
      (before_in (entry_cmp row_cmp) e h.0 left a.0 h.1))

pub are_related : (relation : Relation) (left right : List One) → Ascends (entry_cmp row_cmp) left
    → Ascends (entry_cmp row_cmp) right
    → AreRelated relation left right (related_entries relation left right)
are_related relation left right a b = record {
  members = λ e f. (
    from_related relation left right e f,
    λ (h : In e left × In f right × (relates relation e.period f.period ≡ true)).
        in_related relation left right e f h.0 h.1 h.2,
  );
  ascending = related_ascends relation left right a b;
}
