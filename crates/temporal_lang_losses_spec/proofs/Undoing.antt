-- Databases that agree up to losses agree again behind the way back over an operator that has none.
use Rattle.std.proofs.Common.{◌≡◌, ℕ, Bool, true, false, List, [], ◌∷◌, refl, ap, subst, ◌∙◌}
use Rattle.std.specs.Prelude.{Option, Some, None, cond, ◌||◌, is_some}
use Rattle.std.specs.FinMap.{get, insert, remove, get-insert, get-remove}
use Rattle.std.specs.Cmp.Lexicographic.{nat_list_cmp_total}
use Rattle.prima_base.specs.Columns.{Column}
use Rattle.schema_catalog.specs.Tables.{Tables}
use Rattle.schema_catalog.specs.Databases.{DatabaseEntry, Lost, Database}
use Rattle.smo_ops_types.specs.Operators.{Operator}
use Rattle.smo_ops_spec.specs.OneRow.{same}
use Rattle.smo_ops_spec.specs.Preconditions.{among}
use Rattle.smo_ops_spec.specs.OperatorTable.{line, made_names}
use Rattle.smo_ops_spec.specs.Touching.{makes, consumes}
use Rattle.smo_ops_spec.specs.Losses.{Loss}
use Rattle.smo_ops_spec.specs.After.{op_fault, schema_after, lose_all}
use Rattle.smo_ops_spec.proofs.TouchedTables.{lost_others, table_stays, consumed_is_there}
use Rattle.smo_ops_spec.proofs.TouchedTables.{made_is_free}
use Rattle.smo_ops_versions_spec.specs.ColumnLosses.{TableLoss, WholeTable, Losses}
use Rattle.smo_ops_versions_spec.specs.Migration.{lost_by, undone}
use Rattle.smo_ops_versions_spec.specs.LostNames.{none_lost, all_lost, losses_undone}
use Rattle.temporal_lang_losses_spec.specs.Agreeing.{AgreeAt, AgreeUpTo}
use Rattle.temporal_lang_losses_spec.proofs.EachName.{no_table, agree_at}

joined_conds : {X : Type 0} (a b : Bool) (x o : Option X)
    → cond b x (cond a x o) ≡ cond (a || b) x o
joined_conds true true x o = refl
joined_conds true false x o = refl
joined_conds false b x o = refl

module _ (loss : Loss) where
  lost_at : (names : List (List ℕ)) (db : Database) (n : List ℕ)
      → get (lost_by loss names db) n ≡ cond (among n names) (Some (Lost loss.0 loss.1)) (get db n)
  lost_at [] db n = refl
  lost_at (r ∷ names) db n =
      lost_at names (insert db r (Lost loss.0 loss.1)) n
      ∙ ap (λ (o : Option DatabaseEntry). cond (among n names) (Some (Lost loss.0 loss.1)) o)
      (get-insert nat_list_cmp_total db r (Lost loss.0 loss.1) n)
      ∙ joined_conds (same n r) (among n names) (Some (Lost loss.0 loss.1)) (get db n)

  all_lost_at : (names : List (List ℕ)) (losses : Losses) (n : List ℕ)
      → get (all_lost loss names losses) n
      ≡ cond (among n names) (Some (WholeTable loss)) (get losses n)
  all_lost_at [] losses n = refl
  all_lost_at (r ∷ names) losses n =
      all_lost_at names (insert losses r (WholeTable loss)) n
      ∙ ap (λ (o : Option TableLoss). cond (among n names) (Some (WholeTable loss)) o)
      (get-insert nat_list_cmp_total losses r (WholeTable loss) n)
      ∙ joined_conds (same n r) (among n names) (Some (WholeTable loss)) (get losses n)

  none_lost_at : (names : List (List ℕ)) (losses : Losses) (n : List ℕ)
      → get (none_lost names losses) n ≡ cond (among n names) None (get losses n)
  none_lost_at [] losses n = refl
  none_lost_at (r ∷ names) losses n =
      none_lost_at names (remove losses r) n
      ∙ ap (λ (o : Option TableLoss). cond (among n names) None o)
      (get-remove nat_list_cmp_total losses r n)
      ∙ joined_conds (same n r) (among n names) None (get losses n)

  lost_entry : (columns : List Column) → AgreeAt (Some columns) (Some (WholeTable loss))
      (Some (Lost loss.0 loss.1)) (Some (Lost loss.0 loss.1))
  lost_entry columns = record {
    first = tt;
    second = tt;
    first_there = λ e. absurd (cc);
    second_there = λ e. absurd (cc);
    rows = λ e. absurd (cc);
  }

  module _ (before : Tables) (op : Operator) (losses : Losses) (a b : Database)
      (accepted : op_fault before op ≡ None)
      (agree : AgreeUpTo (schema_after before op) losses a b) where
    undone_at : (db : Database) (n : List ℕ) → get (undone loss before op db) n
        ≡ cond (consumes before op n) (Some (Lost loss.0 loss.1))
        (cond (makes before op n) None (get db n))
    undone_at db n = lost_at (line before op).consumed
        (lose_all (made_names (line before op).made) db) n
        ∙ ap (λ o. cond (consumes before op n) (Some (Lost loss.0 loss.1)) o)
        (lost_others (made_names (line before op).made) db n)

    losses_at : (n : List ℕ) → get (losses_undone loss before op losses) n
        ≡ cond (consumes before op n) (Some (WholeTable loss))
        (cond (makes before op n) None (get losses n))
    losses_at n = all_lost_at (line before op).consumed
        (none_lost (made_names (line before op).made) losses) n
        ∙ ap (λ o. cond (consumes before op n) (Some (WholeTable loss)) o)
        (none_lost_at (made_names (line before op).made) losses n)

    at_name : (n : List ℕ) (c m : Bool) → consumes before op n ≡ c → makes before op n ≡ m
        → (o : Option (List Column)) → get before n ≡ o
        → AgreeAt o (cond c (Some (WholeTable loss)) (cond m None (get losses n)))
        (cond c (Some (Lost loss.0 loss.1)) (cond m None (get a n)))
        (cond c (Some (Lost loss.0 loss.1)) (cond m None (get b n)))
    at_name n true m p q None e = absurd
        (let t = consumed_is_there before op n accepted p in let g = ap is_some e in cc)
    at_name n true m p q (Some cs) e = lost_entry cs
    at_name n false true p q None e = no_table
    at_name n false true p q (Some cs) e =
        absurd (let f = made_is_free before op n accepted q (ap is_some e) in cc)
    at_name n false false p q o e =
        subst (λ (x : Option (List Column)). AgreeAt x (get losses n) (get a n) (get b n))
        (table_stays before op n q p ∙ e) (agree n)

    pub undone_agrees : AgreeUpTo before (losses_undone loss before op losses)
        (undone loss before op a) (undone loss before op b)
    undone_agrees = λ n. agree_at _ _ _ _ _ _ _ _ refl (losses_at n) (undone_at a n)
        (undone_at b n)
        (at_name n (consumes before op n) (makes before op n) refl refl (get before n) refl)
