-- The carried database is one of the next schema.
use Rattle.std.proofs.Common.{◌≡◌, ℕ, true, false, List, [], ◌∷◌, sym, subst}
use Rattle.std.specs.Prelude.{cond, not, Option, Some, None, ⊤}
use Rattle.std.specs.List.{filter}
use Rattle.std.specs.Option.{unwrap_or}
use Rattle.std.specs.Ordering.{eq_by_cmp}
use Rattle.std.specs.FinMap.{get, insert, remove, get-insert, get-remove}
use Rattle.std.specs.Cmp.Lexicographic.{nat_list_cmp_total}
use Rattle.prima_base.specs.declared.refusal.OpRefusal.TheVariants.{ColumnExists, ColumnsDiffer}
use Rattle.prima_base.specs.declared.refusal.OpRefusal.TheVariants.{WrongType}
use Rattle.prima_base.specs.Order.{bytes_cmp}
use Rattle.prima_base.specs.Columns.{Column, names_of, AreColumns, IsRelation}
use Rattle.cond_expr.specs.Faults.{untyped, first_of}
use Rattle.schema_catalog.specs.Tables.{Tables, IsSchema}
use Rattle.schema_catalog.specs.Databases.{cell, DatabaseEntry, Rows, Lost, Database, IsEntry}
use Rattle.schema_catalog.specs.Databases.{IsDatabase}
use Rattle.smo_ops_types.specs.Operators.{Operator, nop, create_table, drop_table, rename_table}
use Rattle.smo_ops_types.specs.Operators.{copy_table, merge_table, partition_table, decompose_table}
use Rattle.smo_ops_types.specs.Operators.{join_table, add_column, drop_column, rename_column}
use Rattle.smo_ops_spec.specs.OneRow.{Relation, meets, own_kinds}
use Rattle.smo_ops_spec.specs.Effects.{columns_of}
use Rattle.smo_ops_spec.specs.Preconditions.{among, same_columns, is_new}
use Rattle.smo_ops_spec.specs.Making.{in_order, named, without, renamed, with_column, type_of_value}
use Rattle.smo_ops_spec.specs.Making.{joined_columns, image, union, added_value, moved, join_rows}
use Rattle.smo_ops_spec.specs.Making.{from_one, from_two}
use Rattle.smo_ops_spec.specs.OperatorTable.{Made, line, without_all, with_all}
use Rattle.smo_ops_spec.specs.After.{op_fault, schema_after, lose_all, make_all, migrate}
use Rattle.smo_ops_spec.specs.Losses.{IsEntryOrLost, IsDatabaseWithLosses}
use Rattle.smo_ops_spec.proofs.Firsts.{met, none_mapped}
use Rattle.smo_ops_spec.proofs.StepLaws.{AllMet}
use Rattle.smo_ops_spec.proofs.NextSchemas.{all_preconditions, ordered_columns}
use Rattle.smo_ops_spec.proofs.MetPreconditions.{merge_met, join_met, add_met, new_name_met}
use Rattle.smo_ops_spec.proofs.TouchedTables.{opposite}
use Rattle.smo_ops_spec.proofs.MadeRows.{filtered, united, kept_cells, one_column_more}
use Rattle.smo_ops_spec.proofs.MadeRows.{column_renamed, rows_joined, columns_same, value_has_type}

no_rows : (columns : List Column) → IsRelation columns []
no_rows columns = record { ascending = tt; fitting = λ row m. absurd m }

-- what stands under one name, where L is so of each loss
abbrev Stands : Type 0 → Option (List Column) → Option DatabaseEntry → Type 0
Stands L None None = ⊤
Stands L None (Some entry) = ⊥
Stands L (Some columns) None = ⊥
Stands L (Some columns) (Some (Rows rows)) = IsRelation columns rows
Stands L (Some columns) (Some (Lost k i)) = L

module _ (L : Type 0) where
  abbrev IsOf : Tables → Database → Type 0
  IsOf tables db = (n : List ℕ) → Stands L (get tables n) (get db n)

  abbrev EachStands : Database → List Made → Type 0
  EachStands db [] = ⊤
  EachStands db (m ∷ made) = Stands L (Some m.columns) (Some (m.entry db)) × EachStands db made

  one_less : (tables : Tables) (db : Database) (r : List ℕ) → IsOf tables db
      → IsOf (remove tables r) (remove db r)
  one_less tables db r h = λ q.
      rw (get-remove nat_list_cmp_total tables r q, get-remove nat_list_cmp_total db r q)
      (elim (eq_by_cmp bytes_cmp q r) as (λ b.
      Stands L (cond b None (get tables q)) (cond b None (get db q))) [
        | true ↦ tt
        | false ↦ h q
      ])

  one_more : (tables : Tables) (db : Database) (r : List ℕ) (columns : List Column)
      (x : DatabaseEntry) → IsOf tables db → Stands L (Some columns) (Some x)
      → IsOf (insert tables r columns) (insert db r x)
  one_more tables db r columns x h s = λ q.
      rw (get-insert nat_list_cmp_total tables r columns q, get-insert nat_list_cmp_total db r x q)
      (elim (eq_by_cmp bytes_cmp q r) as (λ b.
      Stands L (cond b (Some columns) (get tables q)) (cond b (Some x) (get db q))) [
        | true ↦ s
        | false ↦ h q
      ])

  all_less : (consumed : List (List ℕ)) (tables : Tables) (db : Database) → IsOf tables db
      → IsOf (without_all consumed tables) (lose_all consumed db)
  all_less [] tables db h = h
  all_less (r ∷ consumed) tables db h = all_less consumed (remove tables r) (remove db r)
      (one_less tables db r h)

  all_more : (made : List Made) (tables : Tables) (before db : Database) → IsOf tables db
      → EachStands before made → IsOf (with_all made tables) (make_all made before db)
  all_more [] tables before db h s = h
  all_more (m ∷ made) tables before db h s =
      all_more made (insert tables m.name m.columns) before (insert db m.name (m.entry before))
      (one_more tables db m.name m.columns (m.entry before) h s.0) s.1

  -- what is made of one table, and of two
  one_input : (f : Relation → Relation) (new : List Column) (o : Option (List Column))
      (x : Option DatabaseEntry) → Stands L o x
      → ((rows : Relation) → IsRelation (unwrap_or o []) rows → IsRelation new (f rows))
      → Stands L (Some new) (Some (from_one f x))
  one_input f new o None h k = no_rows new
  one_input f new None (Some x) h k = absurd h
  one_input f new (Some columns) (Some (Rows rows)) h k = k rows h
  one_input f new (Some columns) (Some (Lost j i)) h k = h

  two_inputs : (f : Relation → Relation → Relation) (new : List Column) (o p : Option (List Column))
      (x y : Option DatabaseEntry) → Stands L o x → Stands L p y
      → ((a b : Relation) → IsRelation (unwrap_or o []) a → IsRelation (unwrap_or p []) b
      → IsRelation new (f a b)) → Stands L (Some new) (Some (from_two f x y))
  two_inputs f new o p None y h g k = one_input (λ rows. []) new p y g (λ rows s. no_rows new)
  two_inputs f new None p (Some x) y h g k = absurd h
  two_inputs f new (Some columns) p (Some (Rows rows)) y h g k =
      one_input (f rows) new p y g (λ b s. k rows b h s)
  two_inputs f new (Some columns) p (Some (Lost j i)) y h g k = h

  module _ (tables : Tables) (db : Database) (schema : IsSchema tables) (is : IsOf tables db) where
    ordered : (r : List ℕ) → AreColumns (columns_of tables r)
    ordered r = ordered_columns tables r schema

    of_one : (r : List ℕ) (f : Relation → Relation) (new : List Column)
        → ((rows : Relation) → IsRelation (columns_of tables r) rows → IsRelation new (f rows))
        → Stands L (Some new) (Some (from_one f (get db r)))
    of_one r f new k = one_input f new (get tables r) (get db r) (is r) k

    of_two : (r s : List ℕ) (f : Relation → Relation → Relation) (new : List Column)
        → ((a b : Relation) → IsRelation (columns_of tables r) a
        → IsRelation (columns_of tables s) b → IsRelation new (f a b))
        → Stands L (Some new) (Some (from_two f (get db r) (get db s)))
    of_two r s f new k = two_inputs f new (get tables r) (get tables s) (get db r) (get db s) (is r)
        (is s) k

    is_free_name : (r c : List ℕ) → is_new r (columns_of tables r) c ≡ None
        → among c (names_of (columns_of tables r)) ≡ false
    is_free_name r c e = opposite (among c (names_of (columns_of tables r)))
        (met (not (among c (names_of (columns_of tables r)))) (ColumnExists r c) e)

    entries_made : (op : Operator) → AllMet (line tables op).preconditions
        → EachStands db (line tables op).made
    entries_made nop m = tt
    entries_made (create_table r cs) m = (no_rows (in_order cs), tt)
    entries_made (drop_table r) m = tt
    entries_made (rename_table r t) m = (
      of_one r (λ rows. rows) (columns_of tables r)
          (λ rows h. h),
      tt,
    )
    entries_made (copy_table r t) m = (
      of_one r (λ rows. rows) (columns_of tables r) (λ rows h. h),
      tt,
    )
    entries_made (merge_table r s t) m = (
      of_two r s union (columns_of tables r)
          (λ a b h g. united (columns_of tables r) a b h
          (subst (λ (cs : List Column). IsRelation cs b) (sym alike_columns) g)),
      tt,
    )
      where
        alike_columns : columns_of tables r ≡ columns_of tables s
        alike_columns = columns_same (columns_of tables r) (columns_of tables s)
            (met (same_columns (columns_of tables r) (columns_of tables s)) (ColumnsDiffer r s)
            (merge_met m).columns_alike)
    entries_made (partition_table r s c t) m =
        let columns : List Column = columns_of tables r in (
          of_one r (filter (meets columns c)) columns
              (λ rows h. filtered columns (meets columns c) rows h),
          (
            of_one r (filter (λ row. not (meets columns c row))) columns
                (λ rows h. filtered columns (λ row. not (meets columns c row)) rows h),
            tt,
          ),
        )
    entries_made (decompose_table r s xs t ys) m =
        let columns : List Column = columns_of tables r in (
          of_one r (image (named xs columns) (cell columns)) (named xs columns)
              (λ rows h. kept_cells columns _ rows (ordered r) h),
          (
            of_one r (image (named ys columns) (cell columns)) (named ys columns)
                (λ rows h. kept_cells columns _ rows (ordered r) h),
            tt,
          ),
        )
    entries_made (join_table r s t c) m =
        let cs : List Column = columns_of tables r in
        let ds : List Column = columns_of tables s in (
          of_two r s (join_rows cs ds c) (joined_columns cs ds)
              (λ a b h g. rows_joined cs ds (ordered r) (ordered s)
              (met _ (ColumnsDiffer r s) (join_met c m).types_agree) c a b h g),
          tt,
        )
    entries_made (add_column c e r) m =
        let columns : List Column = columns_of tables r in
        let new : List Column = with_column c (type_of_value columns e) columns in (
          of_one r (image new (added_value columns c e)) new
              (λ rows h. one_column_more columns c e (type_of_value columns e) rows (ordered r) h
              (value_has_type columns e (none_mapped WrongType
              (first_of (untyped (own_kinds columns) 0 e)) (add_met e m).types_right))
              (is_free_name r c (add_met e m).name_new)),
          tt,
        )
    entries_made (drop_column c r) m =
        let columns : List Column = columns_of tables r in (
          of_one r (image (without c columns) (cell columns)) (without c columns)
              (λ rows h. kept_cells columns _ rows (ordered r) h),
          tt,
        )
    entries_made (rename_column b r c) m =
        let columns : List Column = columns_of tables r in (
          of_one r (image (renamed b c columns) (moved columns b c)) (renamed b c columns)
              (λ rows h. column_renamed columns b c rows (ordered r) h
              (is_free_name r c (new_name_met m).name_new)),
          tt,
        )

    migrate_is : (op : Operator) → op_fault tables op ≡ None
        → IsOf (schema_after tables op) (migrate tables op db)
    migrate_is op e =
        all_more (line tables op).made (without_all (line tables op).consumed tables) db
        (lose_all (line tables op).consumed db)
        (all_less (line tables op).consumed tables db is)
        (entries_made op (all_preconditions tables op e))

-- with no loss, and with losses
stands : (o : Option (List Column)) (x : Option DatabaseEntry) → IsEntry o x → Stands ⊥ o x
stands None None h = tt
stands None (Some x) h = absurd h
stands (Some cs) None h = absurd h
stands (Some cs) (Some (Rows rows)) h = h
stands (Some cs) (Some (Lost k i)) h = absurd h

is_entry : (o : Option (List Column)) (x : Option DatabaseEntry) → Stands ⊥ o x → IsEntry o x
is_entry None None h = tt
is_entry None (Some x) h = absurd h
is_entry (Some cs) None h = absurd h
is_entry (Some cs) (Some (Rows rows)) h = h
is_entry (Some cs) (Some (Lost k i)) h = absurd h

stands_or_lost : (o : Option (List Column)) (x : Option DatabaseEntry) → IsEntryOrLost o x
    → Stands ⊤ o x
stands_or_lost None None h = tt
stands_or_lost None (Some x) h = absurd h
stands_or_lost (Some cs) None h = absurd h
stands_or_lost (Some cs) (Some (Rows rows)) h = h
stands_or_lost (Some cs) (Some (Lost k i)) h = tt

is_entry_or_lost : (o : Option (List Column)) (x : Option DatabaseEntry) → Stands ⊤ o x
    → IsEntryOrLost o x
is_entry_or_lost None None h = tt
is_entry_or_lost None (Some x) h = absurd h
is_entry_or_lost (Some cs) None h = absurd h
is_entry_or_lost (Some cs) (Some (Rows rows)) h = h
is_entry_or_lost (Some cs) (Some (Lost k i)) h = tt

pub migrated_database : (tables : Tables) (op : Operator) (db : Database) → IsSchema tables
    → op_fault tables op ≡ None → IsDatabase tables db
    → IsDatabase (schema_after tables op) (migrate tables op db)
migrated_database tables op db s e h = λ n.
    is_entry (get (schema_after tables op) n) (get (migrate tables op db) n)
    (migrate_is ⊥ tables db s (λ q. stands (get tables q) (get db q) (h q)) op e n)

pub migrated_with_losses : (tables : Tables) (op : Operator) (db : Database) → IsSchema tables
    → op_fault tables op ≡ None → IsDatabaseWithLosses tables db
    → IsDatabaseWithLosses (schema_after tables op) (migrate tables op db)
migrated_with_losses tables op db s e h = λ n.
    is_entry_or_lost (get (schema_after tables op) n) (get (migrate tables op db) n)
    (migrate_is ⊤ tables db s (λ q. stands_or_lost (get tables q) (get db q) (h q)) op e n)
