-- Two rows agree on all common columns just where they have one key, and so the rows of one's key
-- are its partners.
use Rattle.std.proofs.Common.{◌≡◌, ℕ, Bool, true, false, List, [], ◌∷◌, map, refl, sym, ap, ◌∙◌}
use Rattle.std.specs.Prelude.{cond, not, ◌&&◌, ◌||◌}
use Rattle.std.specs.List.{filter, flat_map, list_all}
use Rattle.std.specs.Ordering.{is_eq, ordering_then}
use Rattle.std.specs.declared.cmp.Ordering.{Ordering}
use Rattle.std.specs.declared.cmp.Ordering.TheVariants.{Less, Equal, Greater}
use Rattle.prima_base.specs.Order.{value_cmp, row_cmp, value_eq}
use Rattle.prima_base.specs.OrderLaws.{row_eq_equiv}
use Rattle.prima_base.specs.Columns.{Column, names_of}
use Rattle.schema_catalog.specs.Databases.{cell}
use Rattle.cond_expr.specs.Trees.{Test}
use Rattle.smo_ops_spec.specs.OneRow.{Row, Relation, meets}
use Rattle.smo_ops_spec.specs.Preconditions.{among}
use Rattle.smo_ops_spec.specs.Making.{named, agree, joined_columns, joined_row}
use Rattle.smo_maps.specs.declared.source.Source.{Source}
use Rattle.smo_maps.specs.Picking.{source_of, picked_row}
use Rattle.smo_maps.specs.Keys.{common, of_key}
use Rattle.smo_maps.proofs.Places.{picked_own, shown_row, shown_joined}

then_equal : (o r : Ordering) → is_eq (ordering_then o r) ≡ (is_eq o && is_eq r)
then_equal Less r = refl
then_equal Equal r = refl
then_equal Greater r = refl

module _ (cs ds : List Column) (a b : Row) where
  one_key : (xs : List Column)
      → list_all (λ (c : Column). not (among c.0 (names_of ds))
      || value_eq (cell cs a c.0) (cell ds b c.0)) xs
      ≡ is_eq (row_cmp (map (λ (c : Column). cell cs a c.0) (named (names_of ds) xs))
      (map (λ (c : Column). cell ds b c.0) (named (names_of ds) xs)))
  one_key [] = refl
  one_key (c ∷ xs) = step (among c.0 (names_of ds)) (one_key xs)
    where
      rest : Bool
      rest = list_all (λ (c : Column). not (among c.0 (names_of ds))
          || value_eq (cell cs a c.0) (cell ds b c.0)) xs

      one : List Column → Row
      one ys = map (λ (c : Column). cell cs a c.0) ys

      other : List Column → Row
      other ys = map (λ (c : Column). cell ds b c.0) ys

      step : (t : Bool) → rest ≡ is_eq (row_cmp (one (named (names_of ds) xs))
          (other (named (names_of ds) xs)))
          → ((not t || value_eq (cell cs a c.0) (cell ds b c.0)) && rest)
          ≡ is_eq (row_cmp (one (cond t (c ∷ named (names_of ds) xs) (named (names_of ds) xs)))
          (other (cond t (c ∷ named (names_of ds) xs) (named (names_of ds) xs))))
      step true e =
          ap (λ r. value_eq (cell cs a c.0) (cell ds b c.0) && r) e
          ∙ sym (then_equal (value_cmp (cell cs a c.0) (cell ds b c.0))
          (row_cmp (one (named (names_of ds) xs)) (other (named (names_of ds) xs))))
      step false e = e

-- the rows of a key
module _ (cs ds : List Column) (keys others : List Source) (names : List (List ℕ))
    (k : keys ≡ map (source_of cs []) names) (o : others ≡ map (source_of ds []) names)
    (n : names ≡ names_of (common cs ds)) where
  first_key : (a : Row) → picked_row keys a [] ≡ map (λ (c : Column). cell cs a c.0) (common cs ds)
  first_key a = ap (λ (ss : List Source). picked_row ss a []) (k ∙ ap (map (source_of cs [])) n)
      ∙ shown_row (source_of cs []) a [] (cell cs a) (common cs ds) (picked_own cs a)

  other_key : (b : Row) → picked_row others b []
      ≡ map (λ (c : Column). cell ds b c.0) (common cs ds)
  other_key b = ap (λ (ss : List Source). picked_row ss b []) (o ∙ ap (map (source_of ds [])) n)
      ∙ shown_row (source_of ds []) b [] (cell ds b) (common cs ds) (picked_own ds b)

  partner : (a b : Row) → is_eq (row_cmp (picked_row others b []) (picked_row keys a []))
      ≡ agree cs ds a b
  partner a b =
      row_eq_equiv.symm (picked_row others b []) (picked_row keys a [])
      ∙ ap (λ (x : Row). is_eq (row_cmp x (picked_row others b []))) (first_key a)
      ∙ ap (λ (y : Row). is_eq (row_cmp (map (λ (c : Column). cell cs a c.0) (common cs ds)) y))
      (other_key b)
      ∙ sym (one_key cs ds a b cs)

  pub partners : (a : Row) (rows : Relation) → of_key others (picked_row keys a []) rows
      ≡ filter (agree cs ds a) rows
  partners a rows = ap (λ (test : Row → Bool). filter test rows) (λ i b. partner a b i)

  pub pairs_joined : (sources : List Source) (all : List (List ℕ)) (c : Test)
      (first second : Relation) (group : Row → Relation)
      → sources ≡ map (source_of cs ds) all → all ≡ names_of (joined_columns cs ds)
      → ((key : Row) → group key ≡ of_key others key second)
      → filter (meets (joined_columns cs ds) c)
      (flat_map (λ (a : Row). map (picked_row sources a) (group (picked_row keys a []))) first)
      ≡ filter (meets (joined_columns cs ds) c)
      (flat_map (λ (a : Row). map (joined_row cs ds a) (filter (agree cs ds a) second)) first)
  pairs_joined sources all c first second group s e g =
      let each : (a : Row) → map (picked_row sources a) (group (picked_row keys a []))
      ≡ map (joined_row cs ds a) (filter (agree cs ds a) second) =
      λ a. ap (map (picked_row sources a)) (g (picked_row keys a []) ∙ partners a second)
      ∙ ap (λ (show : Row → Row). map show (filter (agree cs ds a) second))
      (λ i b. shown_joined cs ds a b sources all s e i) in
      ap (λ (f : Row → List Row). filter (meets (joined_columns cs ds) c) (flat_map f first))
      (λ i a. each a i)
