-- Two relations have the same rows over the columns that are kept just where each row of one has a
-- row of the other with the same cells there.
use Rattle.std.proofs.Common.{◌≡◌, ℕ, true, List, [], ◌∷◌, map, refl, sym, ap, subst}
use Rattle.std.proofs.Common.{◌∙◌, inl, inr}
use Rattle.std.specs.Prelude.{Option, Some, None, is_none}
use Rattle.std.specs.FinMap.{FinMap, get}
use Rattle.relations_spec.specs.Sets.{In}
use Rattle.relations_spec.proofs.SetLaws.{in_map, from_map, from_filter, in_set, from_set, set_same}
use Rattle.prima_base.specs.declared.value.Value.{Value}
use Rattle.prima_base.specs.Order.{bytes_cmp, row_cmp}
use Rattle.prima_base.specs.OrderLaws.{row_exact}
use Rattle.prima_base.specs.Columns.{Column, names_of}
use Rattle.schema_catalog.specs.Databases.{cell}
use Rattle.smo_ops_spec.specs.OneRow.{Row, Relation}
use Rattle.smo_ops_spec.specs.Making.{image}
use Rattle.smo_ops_spec.specs.Losses.{Loss}
use Rattle.smo_ops_spec.proofs.NameLaws.{in_names}
use Rattle.smo_ops_spec.proofs.MadeCells.{same_cell, among_kept}
use Rattle.smo_ops_versions_spec.specs.ColumnLosses.{kept_columns}

pub is_none_so : {X : Type 0} (o : Option X) → is_none o ≡ true → o ≡ None
is_none_so None e = refl
is_none_so (Some x) e = absurd (cc)

module _ (lost : FinMap bytes_cmp Loss) (cs : List Column) where
  -- two rows have the same in each column that is not lost, and each row of one relation has such a
  -- one in the other
  abbrev pub AlikeRows : Row → Row → Type 0
  AlikeRows row other = (n : List ℕ) → get lost n ≡ None → cell cs row n ≡ cell cs other n

  abbrev pub Follow : Relation → Relation → Type 0
  Follow a b = (row : Row) → In row a → (other : Row) × In other b × AlikeRows row other

  abbrev kept : List Column
  kept = kept_columns lost cs

  abbrev projected : Row → Row
  projected row = map (λ (c : Column). cell cs row c.0) kept

  kept_cell : (row : Row) (n : List ℕ) → get lost n ≡ None
      → cell kept (projected row) n ≡ cell cs row n
  kept_cell row n e = same_cell cs kept (cell cs row) row n refl
      (among_kept (λ (c : Column). is_none (get lost c.0)) cs n
      (λ c q. ap (λ (x : List ℕ). is_none (get lost x)) q ∙ ap is_none e))

  pub kept_follow : (a b : Relation) → image kept (cell cs) a ≡ image kept (cell cs) b → Follow a b
  kept_follow a b e row m =
      let i = from_set row_cmp row_exact (projected row) (map projected b)
      (subst (λ (rows : Relation). In (projected row) rows) e
      (in_set row_cmp row_exact (projected row) (map projected a) (in_map projected row a m))) in
      from (from_map projected (projected row) b i)
    where
      from : (other : Row) × In other b × (projected other ≡ projected row)
          → (other : Row) × In other b × AlikeRows row other
      from (other, j, q) = (
        other,
        j,
        λ n h. sym (kept_cell row n h)
            ∙ ap (λ (r : Row). cell kept r n) (sym q) ∙ kept_cell other n h,
      )

  map_alike : (row other : Row) (ds : List Column)
      → ((d : Column) → In d ds → cell cs row d.0 ≡ cell cs other d.0)
      → map (λ (c : Column). cell cs row c.0) ds ≡ map (λ (c : Column). cell cs other c.0) ds
  map_alike row other [] h = refl
  map_alike row other (d ∷ ds) h =
      ap (λ (v : Value). v ∷ map (λ (c : Column). cell cs row c.0) ds) (h d (inl refl))
      ∙ ap (λ (vs : Row). cell cs other d.0 ∷ vs) (map_alike row other ds (λ x m. h x (inr m)))

  -- it is enough to have the same in the columns that there are
  abbrev pub FollowIn : Relation → Relation → Type 0
  FollowIn a b = (row : Row) → In row a → (other : Row) × In other b
      × ((n : List ℕ) → In n (names_of cs) → get lost n ≡ None
      → cell cs row n ≡ cell cs other n)

  kept_there : (a b : Relation) → FollowIn a b → (z : Row) → In z (map projected a)
      → In z (map projected b)
  kept_there a b f z m = from (from_map projected z a m)
    where
      from : (row : Row) × In row a × (projected row ≡ z) → In z (map projected b)
      from (row, i, q) =
          let g = f row i in
          subst (λ (x : Row). In x (map projected b))
          (sym (map_alike row g.0 kept (λ d j.
          let k = from_filter (λ (c : Column). is_none (get lost c.0)) d cs j in
          g.2 d.0 (in_names cs d k.0) (is_none_so (get lost d.0) k.1))) ∙ q)
          (in_map projected g.0 b g.1)

  pub follow_kept : (a b : Relation) → FollowIn a b → FollowIn b a
      → image kept (cell cs) a ≡ image kept (cell cs) b
  follow_kept a b f g = set_same row_cmp row_exact (map projected a) (map projected b) (record {
    there = kept_there a b f;
    back = kept_there b a g;
  })
