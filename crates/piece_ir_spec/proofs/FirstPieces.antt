-- The piece that a question of one table begins with means the selection and projection of the
-- table.
use Rattle.std.proofs.Common.{◌≡◌, ℕ, Bool, true, false, List, [], ◌∷◌, ◌++◌, map, refl, sym, ap}
use Rattle.std.proofs.Common.{subst, ◌∙◌, inl, inr}
use Rattle.std.specs.Prelude.{cond, is_some, Some}
use Rattle.std.specs.List.{filter}
use Rattle.std.specs.FinMap.{get, contains_key}
use Rattle.relations_spec.specs.Sets.{In, Ascends, set_of}
use Rattle.relations_spec.proofs.SetLaws.{from_filter, in_filter, from_map, one_list}
use Rattle.prima_base.specs.Order.{bytes_cmp, row_cmp}
use Rattle.prima_base.specs.OrderLaws.{bytes_exact}
use Rattle.prima_base.specs.Columns.{Column, names_of, AreColumns}
use Rattle.schema_catalog.specs.Tables.{Tables, IsSchema}
use Rattle.schema_catalog.specs.Databases.{cell, Database}
use Rattle.cond_expr.specs.declared.expr.Whose.TheVariants.{Atom}
use Rattle.cond_expr.specs.Trees.{Tree}
use Rattle.cond_expr.specs.Values.{value}
use Rattle.cond_expr.specs.Kinds.{kinds_of, kind_of}
use Rattle.smo_ops_spec.specs.OneRow.{Row, same, own_cells, meets}
use Rattle.smo_ops_spec.specs.Effects.{columns_of, rows_under}
use Rattle.smo_ops_spec.specs.Preconditions.{among}
use Rattle.smo_ops_spec.specs.Making.{named}
use Rattle.smo_ops_spec.proofs.NameLaws.{same_itself, in_among, among_in, in_names}
use Rattle.smo_ops_spec.proofs.MadeRows.{column_named}
use Rattle.smo_ops_spec.proofs.KeptColumns.{kept_are_columns}
use Rattle.smo_ops_spec.proofs.NextSchemas.{ordered_columns}
use Rattle.cond_expr.specs.AtomColumns.{columns_at, kinds_of_atoms}
use Rattle.plain_answers_spec.specs.Reading.{Read, read_of}
use Rattle.plain_answers_spec.proofs.OneRelation.{one_relation}
use Rattle.piece_ir_spec.specs.Pieces.{out_names, out_trees, means}
use Rattle.piece_ir_spec.specs.Typed.{IsTyped}
use Rattle.piece_ir_spec.proofs.PieceLaws.{map_same}
use Rattle.piece_ir_spec.specs.Beginnings.{IsQuestion, own_column, first_piece}

-- a column of the one atom has a type
known : (n : List ℕ) (cs : List Column) → In n (names_of cs)
    → is_some (kinds_of (columns_at 0 cs ++ []) (Atom 0) n) ≡ true
known n [] m = absurd m
known n (c ∷ cs) m = step (known n cs) (same n c.0) refl m
  where
    here : kinds_of (columns_at 0 (c ∷ cs) ++ []) (Atom 0) n
        ≡ cond (same n c.0) (Some c.1) (kinds_of (columns_at 0 cs ++ []) (Atom 0) n)
    here = refl

    step : (In n (names_of cs) → is_some (kinds_of (columns_at 0 cs ++ []) (Atom 0) n) ≡ true)
        → (b : Bool) → same n c.0 ≡ b → In n (names_of (c ∷ cs))
        → is_some (kinds_of (columns_at 0 (c ∷ cs) ++ []) (Atom 0) n) ≡ true
    step more true q i = ap is_some here ∙ ap
        (λ (b : Bool). is_some (cond b (Some c.1) (kinds_of (columns_at 0 cs ++ []) (Atom 0) n))) q
    step more false q (inl e) = absurd (let s : same n c.0 ≡ true = ap (λ (x : List ℕ). same n x) e
        ∙ same_itself n in cc)
    step more false q (inr i) = ap is_some here
        ∙ ap (λ (b : Bool). is_some (cond b (Some c.1)
        (kinds_of (columns_at 0 cs ++ []) (Atom 0) n))) q ∙ more i

module _ (cs : List Column) (ns : List (List ℕ)) where
  name_there : (n : List ℕ) → In n (names_of (named ns cs)) → In n ns
  name_there n m =
      let c = column_named (named ns cs) n m in
      subst (λ (x : List ℕ). In x ns) c.2 (among_in c.0.0 ns
      (from_filter (λ (d : Column). among d.0 ns) c.0 cs c.1).1)

  name_back : ((n : List ℕ) → In n ns → In n (names_of cs)) → (n : List ℕ) → In n ns
      → In n (names_of (named ns cs))
  name_back h n m =
      let c = column_named cs n (h n m) in
      subst (λ (x : List ℕ). In x (names_of (named ns cs))) c.2
      (in_names (named ns cs) c.0 (in_filter (λ (d : Column). among d.0 ns) c.0 cs c.1
      (ap (λ (x : List ℕ). among x ns) c.2 ∙ in_among n ns m)))

  -- some columns by their names, ascending and each once, are in just that order
  names_are : AreColumns cs → Ascends bytes_cmp ns → ((n : List ℕ) → In n ns → In n (names_of cs))
      → names_of (named ns cs) ≡ ns
  names_are a b h =
      one_list bytes_cmp bytes_exact (names_of (named ns cs)) ns
      (kept_are_columns (λ (c : Column). among c.0 ns) cs a) b
      (record { there = name_there; back = name_back h })

outs_are : (cs : List Column) (row : Row) (ns : List (List ℕ))
    → map (value (own_cells cs row)) (out_trees (map own_column ns)) ≡ map (cell cs row) ns
outs_are cs row [] = refl
outs_are cs row (n ∷ ns) = ap (λ (vs : Row). cell cs row n ∷ vs) (outs_are cs row ns)

cells_are : (cs : List Column) (row : Row) (ds : List Column)
    → map (λ (c : Column). cell cs row c.0) ds ≡ map (cell cs row) (names_of ds)
cells_are cs row [] = refl
cells_are cs row (d ∷ ds) = ap (λ (vs : Row). cell cs row d.0 ∷ vs) (cells_are cs row ds)

names_stay : (ns : List (List ℕ)) → out_names (map own_column ns) ≡ ns
names_stay [] = refl
names_stay (n ∷ ns) = ap (λ (ms : List (List ℕ)). n ∷ ms) (names_stay ns)

module _ (tables : Tables) (schema : IsSchema tables) (t : List ℕ) (r : Read)
    (asked : IsQuestion tables t r) where
  abbrev cs : List Column
  cs = columns_of tables t

  one_row : (row : Row) → map (value (own_cells (columns_of tables t) row))
      (out_trees (map own_column r.names))
      ≡ map (λ (c : Column). cell (columns_of tables t) row c.0)
      (named r.names (columns_of tables t))
  one_row row =
      outs_are cs row r.names
      ∙ sym (cells_are cs row (named r.names cs)
      ∙ ap (map (cell cs row)) (names_are cs r.names (ordered_columns tables t schema)
      asked.ascending asked.columns))

  pub first_means : (db : Database) → means tables db (first_piece t r)
      ≡ read_of r (columns_of tables t) (rows_under (get db t))
  first_means db =
      ap (set_of row_cmp)
      (one_relation cs (out_trees (map own_column r.names)) r.test (rows_under (get db t))
      ∙ map_same (λ row. map (value (own_cells (columns_of tables t) row))
      (out_trees (map own_column r.names)))
      (λ row. map (λ (c : Column). cell (columns_of tables t) row c.0)
      (named r.names (columns_of tables t)))
      (filter (meets cs r.test) (rows_under (get db t))) (λ row m. one_row row))

  pub first_typed : IsTyped tables (first_piece t r)
  first_typed = record {
    there = at_atom;
    cond = asked.cond;
    outs = λ tree m.
        let a = from_map (λ (o : List ℕ × Tree). o.1) tree (map own_column r.names) m in
        let b = from_map own_column a.0 r.names a.1 in
        subst (λ (x : Tree). is_some (kind_of (kinds_of_atoms (columns_of tables t ∷ [])) x) ≡ true)
        (ap (λ (o : List ℕ × Tree). o.1) b.2 ∙ a.2)
        (known b.0 (columns_of tables t) (asked.columns b.0 b.1));
    ascending = subst (Ascends bytes_cmp) (sym (names_stay r.names)) asked.ascending;
  }
    where
      at_atom : (n : List ℕ) → In n (t ∷ []) → contains_key tables n ≡ true
      at_atom n (inl e) = subst (λ (x : List ℕ). contains_key tables x ≡ true) e asked.there
      at_atom n (inr m) = absurd m
