-- Databases that agree up to losses agree again behind each step.
use Rattle.std.proofs.Common.{◌≡◌, ℕ, List, [], ◌∷◌, refl, subst}
use Rattle.std.proofs.Common.{inl, inr}
use Rattle.std.specs.Prelude.{Option, Some, None}
use Rattle.relations_spec.specs.Sets.{In}
use Rattle.schema_catalog.specs.Tables.{Tables}
use Rattle.schema_catalog.specs.Databases.{Database}
use Rattle.smo_ops_types.specs.Operators.{Operator}
use Rattle.smo_ops_spec.specs.OperatorTable.{Made, line, without_all}
use Rattle.smo_ops_spec.specs.Touching.{made_of}
use Rattle.smo_ops_spec.specs.Losses.{Loss, first_loss}
use Rattle.smo_ops_spec.specs.After.{op_fault, schema_after, migrate, lose_all, IsValid}
use Rattle.piece_ir_spec.specs.Views.{Views}
use Rattle.piece_ir_spec.specs.Given.{EachGivenBy}
use Rattle.piece_ir_spec.specs.OperatorViews.{operator_views}
use Rattle.piece_ir_spec.proofs.EachOperator.{each_views}
use Rattle.smo_ops_versions_spec.specs.ColumnLosses.{OfColumns, Losses, table_loss}
use Rattle.smo_ops_versions_spec.specs.ColumnLosses.{gathered}
use Rattle.smo_ops_versions_spec.specs.LostNames.{made_as, made_loss, rows_lost, made_column_loss}
use Rattle.smo_ops_versions_spec.specs.LostNames.{losses_over}
use Rattle.smo_ops_versions_spec.specs.LostNames.{none_lost}
use Rattle.temporal_lang_losses_spec.specs.Agreeing.{AgreeAt, AgreeUpTo}
use Rattle.temporal_lang_losses_spec.proofs.AlikeChoices.{NoneLost}
use Rattle.smo_ops_versions_spec.proofs.LossMaps.{or_none, none_first}
use Rattle.temporal_lang_losses_spec.proofs.MadeAgree.{EachTells, lost_agree, kept_agree}
use Rattle.temporal_lang_losses_spec.proofs.EachName.{all_out, all_in}
use Rattle.temporal_lang_losses_spec.proofs.OperatorTells.{each_tells}

module _ (tables : Tables) (op : Operator) (losses : Losses) (a b : Database)
    (agree : AgreeUpTo tables losses a b) (accepted : op_fault tables op ≡ None)
    (valid : IsValid tables) where
  abbrev lost : List ℕ → Option Loss
  lost = made_column_loss op losses

  -- each of these made tables, and its views
  given_agree : NoneLost losses (made_of op) → (made : List Made) → (views : Views)
      → ((m : Made) → In m made → In m (line tables op).made)
      → EachGivenBy tables op made views → EachTells losses lost made views
      → (m : Made) → In m made
      → AgreeAt (Some m.columns) (Some (OfColumns (gathered m.columns lost)))
      (Some (m.entry a)) (Some (m.entry b))
  given_agree h [] views sub g t m i = absurd i
  given_agree h (x ∷ made) [] sub g t m i = absurd g
  given_agree h (x ∷ made) (named ∷ views) sub g t m (inl e) =
      subst (λ (y : Made). AgreeAt (Some y.columns) (Some (OfColumns (gathered y.columns lost)))
      (Some (y.entry a)) (Some (y.entry b))) e
      (kept_agree tables op losses a b agree accepted valid.schema h x (sub x (inl refl)) named g.0
      lost t.0)
  given_agree h (x ∷ made) (named ∷ views) sub g t m (inr i) =
      given_agree h made views (λ y j. sub y (inr j)) g.1 t.1 m i

  made_agree : (o : Option Loss) → made_loss tables op losses ≡ o → (m : Made)
      → In m (line tables op).made
      → AgreeAt (Some m.columns) (Some (made_as o lost m.columns)) (Some (m.entry a))
      (Some (m.entry b))
  made_agree (Some loss) e m i = lost_agree tables op losses a b agree accepted valid.schema m i
      loss
  made_agree None e m i =
      let k = or_none (first_loss (table_loss losses) (made_of op)) (rows_lost tables op losses) e
      in
      let found : NoneLost losses (made_of op) =
      none_first (table_loss losses) (made_of op) k.0 in
      given_agree found (line tables op).made (operator_views tables op) (λ y j. j)
      (each_views tables op valid accepted) (each_tells losses tables op found k.1) m i

  pub over_agrees : AgreeUpTo (schema_after tables op) (losses_over tables op losses)
      (migrate tables op a) (migrate tables op b)
  over_agrees = all_in (made_as (made_loss tables op losses) lost) a b (line tables op).made
      (made_agree (made_loss tables op losses) refl)
      (without_all (line tables op).consumed tables)
      (none_lost (line tables op).consumed losses) (lose_all (line tables op).consumed a)
      (lose_all (line tables op).consumed b)
      (all_out (line tables op).consumed tables losses a b agree)
