-- Along the versions of a past two databases that agree up to losses, each filled by constants of
-- its own, agree again in each version that is reached.
use Rattle.std.proofs.Common.{◌≡◌, ℕ, List, [], ◌∷◌, refl, sym, subst, ◌∙◌}
use Rattle.std.specs.Prelude.{None}
use Rattle.std.specs.FinMap.{get, insert, remove}
use Rattle.prima_base.specs.declared.value.Value.{Value}
use Rattle.prima_base.specs.declared.value.ColType.{ColType}
use Rattle.schema_catalog.specs.Tables.{Tables}
use Rattle.schema_catalog.specs.Databases.{Database, IsDatabase}
use Rattle.cond_expr.specs.Kinds.{value_kind}
use Rattle.smo_ops_types.specs.Commands.{PlainVersion}
use Rattle.smo_ops_spec.specs.Effects.{columns_of}
use Rattle.smo_ops_spec.specs.Making.{with_column}
use Rattle.smo_ops_spec.specs.WaysBack.{blank, filled_with}
use Rattle.smo_ops_spec.specs.After.{migrate}
use Rattle.smo_ops_spec.specs.Past.{no_tables, tables_from}
use Rattle.smo_ops_spec.specs.ValidPast.{AreVersions}
use Rattle.smo_ops_versions_spec.specs.Steps.{Step, carrying, filling, undoing, tables_before}
use Rattle.smo_ops_versions_spec.specs.Steps.{tables_behind, taken, IsLawful, Lead}
use Rattle.smo_ops_versions_spec.specs.Ways.{way}
use Rattle.smo_ops_versions_spec.specs.Migration.{stepped_with}
use Rattle.smo_ops_versions_spec.specs.ColumnLosses.{Losses}
use Rattle.smo_ops_versions_spec.specs.LostNames.{losses_filled, losses_stepped}
use Rattle.smo_ops_versions_spec.proofs.WayLeads.{blank_kind, way_leads}
use Rattle.smo_ops_versions_spec.proofs.WayDatabases.{none_is_lost}
use Rattle.temporal_lang_losses_spec.specs.Agreeing.{AgreeUpTo}
use Rattle.temporal_lang_losses_spec.proofs.WholeAgree.{none_is}
use Rattle.temporal_lang_losses_spec.proofs.LawOfLosses.{over_agrees}
use Rattle.temporal_lang_losses_spec.proofs.Fillings.{same_filling, filled_agrees}
use Rattle.temporal_lang_losses_spec.proofs.Undoing.{undone_agrees}

-- a database without losses agrees with itself up to none
pub agrees_itself : (tables : Tables) (losses : Losses) (db : Database) → IsDatabase tables db
    → AgreeUpTo tables losses db db
agrees_itself tables losses db h = λ n. record {
  first = none_is_lost tables db h n;
  second = none_is_lost tables db h n;
  first_there = λ e. none_is (get tables n) (get db n) (h n);
  second_there = λ e. none_is (get tables n) (get db n) (h n);
  rows = λ e. refl;
}

-- constants of each type, in two ways
module _ (v w : ColType → Value) (of_v : (k : ColType) → value_kind (v k) ≡ k)
    (of_w : (k : ColType) → value_kind (w k) ≡ k) where
  step_agrees : (s : Step) (losses : Losses) (a b : Database) → IsLawful s
      → AgreeUpTo (tables_before s) losses a b
      → AgreeUpTo (tables_behind s) (losses_stepped s losses) (stepped_with v s a)
      (stepped_with w s b)
  step_agrees (carrying tables op) losses a b good h =
      over_agrees tables op losses a b h good.accepted good.valid
  step_agrees (filling loss tables f) losses a b good h =
      let same : value_kind (v f.kind) ≡ value_kind (blank f.kind) = of_v f.kind
      ∙ sym (blank_kind f.kind) in
      subst (λ (k : ColType). AgreeUpTo
      (insert (remove tables f.table) f.table (with_column f.name k (columns_of tables f.table)))
      (losses_filled loss f losses) (migrate tables (filled_with v f) a)
      (migrate tables (filled_with w f) b)) same
      (filled_agrees tables losses f.table f.name loss good.valid a b h (v f.kind) (w f.kind)
      (of_v f.kind ∙ sym (of_w f.kind))
      (same_filling tables f.table f.name (v f.kind) (blank f.kind) same ∙ good.accepted) f.kind)
  step_agrees (undoing loss before op) losses a b good h =
      undone_agrees loss before op losses a b good.accepted h

  steps_agree : (before after : Tables) (steps : List Step) (losses : Losses) (a b : Database)
      → Lead before steps after → AgreeUpTo before losses a b
      → AgreeUpTo after (taken losses_stepped steps losses) (taken (stepped_with v) steps a)
      (taken (stepped_with w) steps b)
  steps_agree before after [] losses a b l h = subst (λ (t : Tables). AgreeUpTo t losses a b) l h
  steps_agree before after (s ∷ steps) losses a b l h =
      steps_agree (tables_behind s) after steps (losses_stepped s losses) (stepped_with v s a)
      (stepped_with w s b) l.2
      (step_agrees s losses a b l.0 (subst (λ (t : Tables). AgreeUpTo t losses a b) l.1 h))

  pub way_is_told : (versions : List PlainVersion) → AreVersions None no_tables versions
      → (x q : ℕ) (losses : Losses) (a b : Database)
      → AgreeUpTo (tables_from no_tables versions x) losses a b
      → AgreeUpTo (tables_from no_tables versions q)
      (taken losses_stepped (way versions x q) losses)
      (taken (stepped_with v) (way versions x q) a) (taken (stepped_with w) (way versions x q) b)
  way_is_told versions are x q losses a b h =
      steps_agree (tables_from no_tables versions x) (tables_from no_tables versions q)
      (way versions x q) losses a b (way_leads versions are x q) h
