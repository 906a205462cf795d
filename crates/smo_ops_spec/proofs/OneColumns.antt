-- The rows after ADD, DROP and RENAME COLUMN follow those before, cell by cell.
use Rattle.std.proofs.Common.{◌≡◌, ℕ, true, false, List, [], ◌∷◌, map, refl, sym, ap, subst, ◌∙◌}
use Rattle.std.proofs.Common.{inl, inr}
use Rattle.std.specs.Prelude.{cond, not, if◌then◌else◌, Option, Some, None}
use Rattle.std.specs.Option.{unwrap_or}
use Rattle.std.specs.FinMap.{get}
use Rattle.relations_spec.specs.Sets.{In}
use Rattle.relations_spec.proofs.SetLaws.{in_map}
use Rattle.prima_base.specs.declared.value.Value.{Value}
use Rattle.prima_base.specs.declared.value.ColType.{ColType}
use Rattle.prima_base.specs.declared.refusal.OpRefusal.TheVariants.{NoColumn}
use Rattle.prima_base.specs.Columns.{Column, names_of}
use Rattle.schema_catalog.specs.Tables.{Tables}
use Rattle.schema_catalog.specs.Databases.{cell, DatabaseEntry, Rows, Database}
use Rattle.cond_expr.specs.Trees.{Tree}
use Rattle.cond_expr.specs.Values.{value}
use Rattle.smo_ops_types.specs.Operators.{Operator, add_column, drop_column, rename_column}
use Rattle.smo_ops_spec.specs.OneRow.{Row, Relation, same, own_cells}
use Rattle.smo_ops_spec.specs.Effects.{columns_of}
use Rattle.smo_ops_spec.specs.Preconditions.{among, first_not_among, each_known}
use Rattle.smo_ops_spec.specs.Making.{without, renamed, with_column, type_of_value, image}
use Rattle.smo_ops_spec.specs.Making.{added_value}
use Rattle.smo_ops_spec.specs.Making.{moved, from_one}
use Rattle.smo_ops_spec.specs.OperatorTable.{line, a_table}
use Rattle.smo_ops_spec.specs.After.{op_fault, schema_after, migrate}
use Rattle.smo_ops_spec.specs.RowMeaning.{RowsFollow, SameBut}
use Rattle.smo_ops_spec.proofs.Firsts.{none_mapped}
use Rattle.smo_ops_spec.proofs.NameLaws.{same_itself, same_turned, among_in, in_names, none_missing}
use Rattle.smo_ops_spec.proofs.NextSchemas.{all_preconditions}
use Rattle.smo_ops_spec.proofs.TouchedTables.{made_is_there, made_is_migrated, neither}
use Rattle.smo_ops_spec.proofs.MadeRows.{column_named}
use Rattle.smo_ops_spec.proofs.MadeCells.{made_cell, same_cell, image_follows, among_with}
use Rattle.smo_ops_spec.proofs.MadeCells.{among_in_order, among_kept}
use Rattle.smo_ops_spec.proofs.WholeTables.{one_relation}

-- what is made of one table that is there
pub made_of_one : (tables : Tables) (op : Operator) (db : Database) (r t : List ℕ)
    (columns : List Column) (f : Relation → Relation) (rows made : Relation)
    → op_fault tables op ≡ None
    → In (a_table t columns (λ x. from_one f (get x r))) (line tables op).made
    → get db r ≡ Some (Rows rows) → get (migrate tables op db) t ≡ Some (Rows made)
    → f rows ≡ made
made_of_one tables op db r t columns f rows made e m is new =
    one_relation (f rows) made
    (ap (λ (x : Option DatabaseEntry). Some (from_one f x)) (sym is)
    ∙ sym (made_is_migrated tables op db (a_table t columns (λ x. from_one f (get x r))) e m)
    ∙ new)

pub made_columns : (tables : Tables) (op : Operator) (t : List ℕ) (columns : List Column)
    (entry : Database → DatabaseEntry) → op_fault tables op ≡ None
    → In (a_table t columns entry) (line tables op).made
    → columns_of (schema_after tables op) t ≡ columns
made_columns tables op t columns entry e m = ap (λ (o : Option (List Column)). unwrap_or o [])
    (made_is_there tables op (a_table t columns entry) e m)

not_one : (n c : List ℕ) → among n (c ∷ []) ≡ false → same c n ≡ false
not_one n c e = same_turned c n ∙ (neither (same n c) false e).0

-- the columns of an image are those after the operator, and its rows those that were made
pub follows : (IsSo : List Column → Row → Row → Type 0) (new schema_after : List Column) (f : Row
    → List ℕ → Value) (rows made : Relation) → schema_after ≡ new → image new f rows ≡ made
    → ((row : Row) → IsSo new row (map (λ (c : Column). f row c.0) new))
    → RowsFollow (IsSo schema_after) rows made
follows IsSo new schema_after f rows made e g h =
    subst (λ (columns : List Column). RowsFollow (IsSo columns) rows made) (sym e)
    (subst (RowsFollow (IsSo new) rows) g (image_follows (IsSo new) new f rows h))

module _ (tables : Tables) (c r : List ℕ) (db : Database) (rows made : Relation) where
  abbrev columns : List Column
  columns = columns_of tables r

  pub dropped_rows : op_fault tables (drop_column c r) ≡ None → get db r ≡ Some (Rows rows)
      → get (migrate tables (drop_column c r) db) r ≡ Some (Rows made)
      → RowsFollow (SameBut (c ∷ []) columns (columns_of (schema_after tables (drop_column c r)) r))
      rows made
  dropped_rows e is now =
      follows (SameBut (c ∷ []) columns) (without c columns)
      (columns_of (schema_after tables (drop_column c r)) r) (cell columns) rows made
      (made_columns tables (drop_column c r) r (without c columns)
      (λ x. from_one (image (without c columns) (cell columns)) (get x r)) e (inl refl))
      (made_of_one tables (drop_column c r) db r r (without c columns)
      (image (without c columns) (cell columns)) rows made e (inl refl) is now)
      (λ row n q. same_cell columns (without c columns) (cell columns row) row n refl
      (among_kept (λ d. not (same d.0 c)) columns n
      (λ d p. ap (λ (x : List ℕ). not (same x c)) p
      ∙ ap not (same_turned n c ∙ not_one n c q))))

  module _ (t : Tree) where
    abbrev kind : ColType
    kind = type_of_value columns t

    one_more : (row : Row) → SameBut (c ∷ []) columns (with_column c kind columns) row
        (map (λ (d : Column). added_value columns c t row d.0) (with_column c kind columns))
        × (cell (with_column c kind columns) (map (λ (d : Column). added_value columns c t row d.0)
        (with_column c kind columns)) c ≡ value (own_cells columns row) t)
    one_more row = (
      λ n q. same_cell columns (with_column c kind columns) (added_value columns c t row) row n
          (ap (λ b. cond b (value (own_cells columns row) t) (cell columns row n)) (not_one n c q))
          (λ i. among_with c kind columns n (inr (among_in n (names_of columns) i))),
      made_cell (with_column c kind columns) (added_value columns c t row) c
          (among_in c (names_of (with_column c kind columns))
          (among_with c kind columns c (inl refl)))
          ∙ ap (λ b. cond b (value (own_cells columns row) t) (cell columns row c)) (same_itself c),
    )

    pub added_rows : op_fault tables (add_column c t r) ≡ None → get db r ≡ Some (Rows rows)
        → get (migrate tables (add_column c t r) db) r ≡ Some (Rows made)
        → RowsFollow (λ row new. SameBut (c ∷ []) columns
        (columns_of (schema_after tables (add_column c t r)) r) row new
        × (cell (columns_of (schema_after tables (add_column c t r)) r) new c
        ≡ value (own_cells columns row) t)) rows made
    added_rows e is now =
        follows (λ cs row new. SameBut (c ∷ []) columns cs row new
        × (cell cs new c ≡ value (own_cells columns row) t))
        (with_column c kind columns) (columns_of (schema_after tables (add_column c t r)) r)
        (added_value columns c t) rows made
        (made_columns tables (add_column c t r) r (with_column c kind columns)
        (λ x. from_one (image (with_column c kind columns) (added_value columns c t)) (get x r)) e
        (inl refl))
        (made_of_one tables (add_column c t r) db r r (with_column c kind columns)
        (image (with_column c kind columns) (added_value columns c t)) rows made e (inl refl) is
        now)
        one_more

  module _ (b : List ℕ) where
    abbrev change : Column → Column
    change d = if same d.0 b then (c, d.1) else d

    unchanged : (d : Column) (n : List ℕ) → d.0 ≡ n → same b n ≡ false → (change d).0 ≡ n
    unchanged d n e q = ap (λ t. (if t then (c, d.1) else d).0)
        (same_turned d.0 b ∙ ap (same b) e ∙ q) ∙ e

    changed : (d : Column) → d.0 ≡ b → (change d).0 ≡ c
    changed d e = ap (λ t. (if t then (c, d.1) else d).0)
        (ap (λ (x : List ℕ). same x b) e ∙ same_itself b)

    named_so : (d : Column) (n : List ℕ) → In d columns → (change d).0 ≡ n
        → among n (names_of (renamed b c columns)) ≡ true
    named_so d n m e = among_in_order (map change columns) n
        (subst (λ (x : List ℕ). In x (names_of (map change columns))) e
        (in_names (map change columns) (change d) (in_map change d columns m)))

    other : (n : List ℕ) → same b n ≡ false → among n (names_of columns) ≡ true
        → among n (names_of (renamed b c columns)) ≡ true
    other n q i = step (column_named columns n (among_in n (names_of columns) i))
      where
        step : (d : Column) × In d columns × (d.0 ≡ n)
            → among n (names_of (renamed b c columns)) ≡ true
        step (d, m, e) = named_so d n m (unchanged d n e q)

    own : each_known r columns (b ∷ []) ≡ None → among c (names_of (renamed b c columns)) ≡ true
    own k = step (column_named columns b (none_missing (b ∷ []) (names_of columns) b
        (none_mapped (NoColumn r) (first_not_among (names_of columns) (b ∷ [])) k) (inl refl)))
      where
        step : (d : Column) × In d columns × (d.0 ≡ b)
            → among c (names_of (renamed b c columns)) ≡ true
        step (d, m, e) = named_so d c m (changed d e)

    one_renamed : each_known r columns (b ∷ []) ≡ None → (row : Row)
        → SameBut (b ∷ c ∷ []) columns (renamed b c columns) row
        (map (λ (d : Column). moved columns b c row d.0) (renamed b c columns))
        × (cell (renamed b c columns) (map (λ (d : Column). moved columns b c row d.0)
        (renamed b c columns)) c ≡ cell columns row b)
    one_renamed k row = (
      λ n q. let h = neither (same n b) (among n (c ∷ [])) q in
          same_cell columns (renamed b c columns) (moved columns b c row) row n
          (ap (λ t. cond t (cell columns row b) (cell columns row n)) (not_one n c h.1))
          (other n (same_turned b n ∙ h.0)),
      made_cell (renamed b c columns) (moved columns b c row) c
          (among_in c (names_of (renamed b c columns)) (own k))
          ∙ ap (λ t. cond t (cell columns row b) (cell columns row c)) (same_itself c),
    )

    pub renamed_column_rows : op_fault tables (rename_column b r c) ≡ None
        → get db r ≡ Some (Rows rows) → get (migrate tables (rename_column b r c) db) r
        ≡ Some (Rows made)
        → RowsFollow (λ row new. SameBut (b ∷ c ∷ []) columns
        (columns_of (schema_after tables (rename_column b r c)) r) row new
        × (cell (columns_of (schema_after tables (rename_column b r c)) r) new c
        ≡ cell columns row b)) rows made
    renamed_column_rows e is now =
        follows (λ cs row new. SameBut (b ∷ c ∷ []) columns cs row new
        × (cell cs new c ≡ cell columns row b))
        (renamed b c columns) (columns_of (schema_after tables (rename_column b r c)) r)
        (moved columns b c) rows made
        (made_columns tables (rename_column b r c) r (renamed b c columns)
        (λ x. from_one (image (renamed b c columns) (moved columns b c)) (get x r)) e
        (inl refl))
        (made_of_one tables (rename_column b r c) db r r (renamed b c columns)
        (image (renamed b c columns) (moved columns b c)) rows made e (inl refl) is now)
        (one_renamed (all_preconditions tables (rename_column b r c) e).1.0)
