-- The tables of whose rows an operator makes what it makes, and the rows that are stored of them.
use Rattle.std.proofs.Common.{◌≡◌, ℕ, true, List, [], ◌∷◌, refl, sym, ap, subst, ◌∙◌, inl, inr}
use Rattle.std.specs.Prelude.{Option, Some, None, is_some, slice_get}
use Rattle.std.specs.FinMap.{get, contains_key}
use Rattle.relations_spec.specs.Sets.{In}
use Rattle.prima_base.specs.Columns.{Column}
use Rattle.schema_catalog.specs.Tables.{Tables}
use Rattle.schema_catalog.specs.Databases.{Database, DatabaseEntry, Rows, Lost, IsEntry, IsDatabase}
use Rattle.history_store.specs.Store.{Store}
use Rattle.smo_ops_types.specs.Operators.{Operator, nop, create_table, drop_table, rename_table}
use Rattle.smo_ops_types.specs.Operators.{copy_table, merge_table, partition_table, decompose_table}
use Rattle.smo_ops_types.specs.Operators.{join_table, add_column, drop_column, rename_column}
use Rattle.smo_ops_spec.specs.OperatorTable.{line}
use Rattle.smo_ops_spec.specs.After.{op_fault}
use Rattle.smo_ops_spec.specs.Effects.{rows_under}
use Rattle.smo_ops_spec.specs.OneRow.{Relation}
use Rattle.smo_ops_spec.proofs.StepLaws.{AllMet}
use Rattle.smo_ops_spec.proofs.NextSchemas.{all_preconditions, is_table}
use Rattle.smo_ops_spec.specs.Touching.{made_of}
use Rattle.smo_maps.specs.Carrying.{AreIn}
use Rattle.version_groups_tables.specs.declared.made_table.MadeTable.{MadeTable}
use Rattle.version_groups_tables.specs.Stored.{stored_as}
use Rattle.version_groups_tables.specs.NewestTables.{IsStoredEntry, AreStored, rows_stored}
use Rattle.version_groups_tables.specs.Evolving.{IsEarlier, AreEarlier, rows_named}

-- each is there
pub given_there : (tables : Tables) (op : Operator) → op_fault tables op ≡ None → (n : List ℕ)
    → In n (made_of op) → contains_key tables n ≡ true
given_there tables op e n i = step op (all_preconditions tables op e) i
  where
    There : List ℕ → Type 0
    There r = contains_key tables r ≡ true

    one : (r : List ℕ) → There r → In n (r ∷ []) → There n
    one r h (inl q) = subst There q h
    one r h (inr q) = absurd q

    two : (r s : List ℕ) → There r → There s → In n (r ∷ s ∷ []) → There n
    two r s h k (inl q) = subst There q h
    two r s h k (inr (inl q)) = subst There q k
    two r s h k (inr (inr q)) = absurd q

    step : (op : Operator) → AllMet (line tables op).preconditions → In n (made_of op) → There n
    step nop m i = absurd i
    step (create_table r cs) m i = absurd i
    step (drop_table r) m i = absurd i
    step (rename_table r t) m i = one r (is_table tables r m.0) i
    step (copy_table r t) m i = one r (is_table tables r m.0) i
    step (merge_table r s t) m i = two r s (is_table tables r m.0) (is_table tables s m.1.0) i
    step (partition_table r s c t) m i = one r (is_table tables r m.0) i
    step (decompose_table r s xs t ys) m i = one r (is_table tables r m.0) i
    step (join_table r s t c) m i = two r s (is_table tables r m.0) (is_table tables s m.1.0) i
    step (add_column c e r) m i = one r (is_table tables r m.0) i
    step (drop_column c r) m i = one r (is_table tables r m.0) i
    step (rename_column b r c) m i = one r (is_table tables r m.0) i

module _ (tables : Tables) (database : Database) (stamp : ℕ) (made : List MadeTable)
    (stored : AreStored tables database stamp made) where
  -- each stamp that is stored is earlier
  pub are_earlier : AreEarlier stamp made
  are_earlier name = step (get tables name) (stored_as name made) (stored name)
    where
      step : (o : Option (List Column)) (s : Option Store)
          → IsStoredEntry stamp (rows_under (get database name)) o s → IsEarlier stamp s
      step o None h = tt
      step None (Some store) h = absurd h
      step (Some columns) (Some store) h = h.before

  module _ (whole : IsDatabase tables database) where
    -- of a table that is there, the database has what is stored
    pub stored_rows : (name : List ℕ) → contains_key tables name ≡ true
        → get database name ≡ Some (Rows (rows_stored stamp (stored_as name made)))
    stored_rows name there = step (get tables name) (get database name) (stored_as name made) there
        (whole name) (stored name)
      where
        step : (o : Option (List Column)) (p : Option DatabaseEntry) (s : Option Store)
            → is_some o ≡ true → IsEntry o p → IsStoredEntry stamp (rows_under p) o s
            → p ≡ Some (Rows (rows_stored stamp s))
        step None p s e h k = absurd (cc)
        step (Some columns) None s e h k = absurd h
        step (Some columns) (Some (Lost i j)) s e h k = absurd h
        step (Some columns) (Some (Rows rows)) None e h k = absurd k
        step (Some columns) (Some (Rows rows)) (Some store) e h k =
            ap (λ r. Some (Rows r)) (sym k.rows)

    -- so it has what is read of these tables
    pub has_given : (names : List (List ℕ)) → ((n : List ℕ) → In n names
        → contains_key tables n ≡ true) → (f s : Option (List ℕ)) → f ≡ slice_get names 0
        → s ≡ slice_get names 1
        → (first second : Relation) → first ≡ rows_named stamp f made
        → second ≡ rows_named stamp s made → AreIn names database first second
    has_given [] there f s e g first second p q = tt
    has_given (r ∷ []) there f s e g first second p q = stored_rows r (there r (inl refl))
        ∙ ap (λ rows. Some (Rows rows)) (sym (p ∙ ap (λ o. rows_named stamp o made) e))
    has_given (r ∷ n ∷ names) there f s e g first second p q = (
      stored_rows r (there r (inl refl)) ∙ ap (λ rows. Some (Rows rows))
          (sym (p ∙ ap (λ o. rows_named stamp o made) e)),
      stored_rows n (there n (inr (inl refl)))
          ∙ ap (λ rows. Some (Rows rows)) (sym (q ∙ ap (λ o. rows_named stamp o made) g)),
    )
