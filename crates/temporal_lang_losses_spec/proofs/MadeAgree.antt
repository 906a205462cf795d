-- The tables that an operator makes of databases that agree up to losses agree up to those of the
-- operator, where its views ask for nothing that is lost.
use Rattle.std.proofs.Common.{◌≡◌, ℕ, List, [], ◌∷◌, sym, ap, subst, ◌∙◌}
use Rattle.std.specs.Prelude.{Option, Some, None, ⊤}
use Rattle.std.specs.FinMap.{FinMap, get}
use Rattle.relations_spec.specs.Sets.{In}
use Rattle.prima_base.specs.Order.{bytes_cmp}
use Rattle.prima_base.specs.Columns.{Column}
use Rattle.schema_catalog.specs.Tables.{Tables, IsSchema}
use Rattle.schema_catalog.specs.Databases.{cell, DatabaseEntry, Database}
use Rattle.smo_ops_types.specs.Operators.{Operator}
use Rattle.smo_ops_spec.specs.OneRow.{Relation}
use Rattle.smo_ops_spec.specs.Effects.{rows_of}
use Rattle.smo_ops_spec.specs.Making.{image}
use Rattle.smo_ops_spec.specs.OperatorTable.{Made, line}
use Rattle.smo_ops_spec.specs.Touching.{made_of}
use Rattle.smo_ops_spec.specs.Losses.{Loss, IsEntryOrLost, IsDatabaseWithLosses, loss_of, loss_in}
use Rattle.smo_ops_spec.specs.After.{op_fault, migrate}
use Rattle.smo_ops_spec.proofs.MigratedDatabases.{migrated_with_losses}
use Rattle.smo_ops_spec.proofs.LossLaws.{hands_on}
use Rattle.smo_ops_spec.proofs.Locality.{made_alike}
use Rattle.smo_ops_spec.proofs.TouchedTables.{made_is_there, made_is_migrated}
use Rattle.smo_ops_versions_spec.specs.LostAsEmpty.{whole}
use Rattle.smo_ops_versions_spec.proofs.WholeDatabases.{kept_at, whole_database}
use Rattle.piece_ir_spec.specs.Views.{PlainView, Views}
use Rattle.piece_ir_spec.specs.Given.{IsGivenBy}
use Rattle.smo_ops_versions_spec.specs.ColumnLosses.{OfColumns, WholeTable, Losses, table_loss}
use Rattle.smo_ops_versions_spec.specs.ColumnLosses.{gathered, kept_columns}
use Rattle.temporal_lang_losses_spec.specs.Agreeing.{AgreeAt, AgreeUpTo}
use Rattle.temporal_lang_losses_spec.proofs.KeptRows.{FollowIn, follow_kept}
use Rattle.temporal_lang_losses_spec.proofs.AlikeChoices.{NoneLost}
use Rattle.temporal_lang_losses_spec.proofs.MadeFollow.{IfKnown, given_follow}
use Rattle.temporal_lang_losses_spec.proofs.WholeAgree.{first_is, second_is, whole_agree}
use Rattle.smo_ops_versions_spec.proofs.LossMaps.{gathered_none, first_none}

pub agree_turned : (tables : Tables) (losses : Losses) (a b : Database)
    → AgreeUpTo tables losses a b → AgreeUpTo tables losses b a
agree_turned tables losses a b h = λ n. record {
  first = (h n).second;
  second = (h n).first;
  first_there = (h n).second_there;
  second_there = (h n).first_there;
  rows = λ e. sym ((h n).rows e);
}

-- each view of each made table asks for nothing that is lost
abbrev pub EachTells : Losses → (List ℕ → Option Loss) → List Made → Views → Type 0
EachTells losses lost [] views = ⊤
EachTells losses lost (m ∷ made) [] = ⊤
EachTells losses lost (m ∷ made) (named ∷ views) = ((v : PlainView) → In v named.1
    → IfKnown losses lost m.columns v v.outs) × EachTells losses lost made views

module _ (tables : Tables) (op : Operator) (losses : Losses) (a b : Database)
    (agree : AgreeUpTo tables losses a b) (accepted : op_fault tables op ≡ None)
    (schema : IsSchema tables) where
  pub entry_is : (db : Database) → IsDatabaseWithLosses tables db → (m : Made)
      → In m (line tables op).made → IsEntryOrLost (Some m.columns) (Some (m.entry db))
  entry_is db h m i =
      subst (λ (x : Option DatabaseEntry). IsEntryOrLost (Some m.columns) x)
      (made_is_migrated tables op db m accepted i)
      (subst (λ (x : Option (List Column)). IsEntryOrLost x (get (migrate tables op db) m.name))
      (made_is_there tables op m accepted i)
      (migrated_with_losses tables op db schema accepted h m.name))

  -- where the made table is lost
  pub lost_agree : (m : Made) → In m (line tables op).made → (loss : Loss)
      → AgreeAt (Some m.columns) (Some (WholeTable loss)) (Some (m.entry a)) (Some (m.entry b))
  lost_agree m i loss = record {
    first = entry_is a (first_is tables losses a b agree) m i;
    second = entry_is b (second_is tables losses a b agree) m i;
    first_there = λ e. absurd (cc);
    second_there = λ e. absurd (cc);
    rows = λ e. absurd (cc);
  }

  module _ (found : NoneLost losses (made_of op)) where
    none_lost_in : (db : Database) → ((n : List ℕ) → table_loss losses n ≡ None
        → loss_in db n ≡ None) → (n : List ℕ) → In n (made_of op) → loss_in db n ≡ None
    none_lost_in db h n m = h n (found n m)

    pub entry_found : (db : Database) → ((n : List ℕ) → table_loss losses n ≡ None
        → loss_in db n ≡ None) → (m : Made) → In m (line tables op).made
        → loss_of (Some (m.entry db)) ≡ None
    entry_found db h m i = hands_on tables db op m i
        ∙ first_none (loss_in db) (made_of op) (none_lost_in db h)

    pub same_whole : (db : Database) → ((n : List ℕ) → table_loss losses n ≡ None
        → loss_in db n ≡ None) → (m : Made) → In m (line tables op).made
        → m.entry (whole db) ≡ m.entry db
    same_whole db h m i = made_alike tables (whole db) db op
        (λ n j. kept_at db n (none_lost_in db h n j)) m i

    -- where it is not
    pub kept_agree : (m : Made) → In m (line tables op).made → (named : List ℕ × List PlainView)
        → IsGivenBy tables op m named → (lost : List ℕ → Option Loss)
        → ((v : PlainView) → In v named.1 → IfKnown losses lost m.columns v v.outs)
        → AgreeAt (Some m.columns) (Some (OfColumns (gathered m.columns lost)))
        (Some (m.entry a)) (Some (m.entry b))
    kept_agree m i named given lost tell =
        let map : FinMap bytes_cmp Loss = gathered m.columns lost in
        let a_is = whole_database tables a (first_is tables losses a b agree) in
        let b_is = whole_database tables b (second_is tables losses a b agree) in
        let both : AgreeUpTo tables losses (whole a) (whole b) =
        whole_agree tables losses a b agree in
        let there : FollowIn map m.columns (rows_of (m.entry (whole a)))
        (rows_of (m.entry (whole b))) =
        given_follow tables losses (whole a) (whole b) both m.columns map lost
        (gathered_none m.columns lost) (rows_of (m.entry (whole a))) (rows_of (m.entry (whole b)))
        named.1 named.1 (given.rows (whole a) a_is) (given.rows (whole b) b_is)
        (λ v j. (v.outs, j, tell v j)) in
        let back : FollowIn map m.columns (rows_of (m.entry (whole b)))
        (rows_of (m.entry (whole a))) =
        given_follow tables losses (whole b) (whole a)
        (agree_turned tables losses (whole a) (whole b) both) m.columns map lost
        (gathered_none m.columns lost) (rows_of (m.entry (whole b))) (rows_of (m.entry (whole a)))
        named.1 named.1 (given.rows (whole b) b_is) (given.rows (whole a) a_is)
        (λ v j. (v.outs, j, tell v j)) in
        let shown : Relation → Relation = image (kept_columns map m.columns) (cell m.columns) in
        record {
          first = entry_is a (first_is tables losses a b agree) m i;
          second = entry_is b (second_is tables losses a b agree) m i;
          first_there = λ e. entry_found a (λ n. (agree n).first_there) m i;
          second_there = λ e. entry_found b (λ n. (agree n).second_there) m i;
          rows = λ e.
              sym (ap (λ (x : DatabaseEntry). shown (rows_of x))
              (same_whole a (λ n. (agree n).first_there) m i))
              ∙ follow_kept map m.columns (rows_of (m.entry (whole a)))
              (rows_of (m.entry (whole b))) there back
              ∙ ap (λ (x : DatabaseEntry). shown (rows_of x))
              (same_whole b (λ n. (agree n).second_there) m i);
        }
