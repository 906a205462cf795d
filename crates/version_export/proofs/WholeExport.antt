-- An export that is not refused is good.
use Rattle.std.specs.Prelude.{◌≡◌, ◌≤◌, ◌<◌, ℕ, Bool, true, false, cond, List, [], ◌∷◌, length}
use Rattle.std.specs.Prelude.{nat_lt, None, slice_get, zero, suc}
use Rattle.std.specs.FinMap.{entries, len-empty, len-entries}
use Rattle.prima_base.specs.Order.{bytes_cmp}
use Rattle.std.proofs.Common.{refl, sym, subst, inl, inr, arith}
use Rattle.relations_spec.specs.Sets.{In}
use Rattle.relations_spec.specs.Spans.{forever}
use Rattle.prima_base.specs.Columns.{Column, AreColumns}
use Rattle.schema_catalog.specs.Places.{NamedColumns}
use Rattle.smo_ops_spec.specs.Accepts.{command_fault}
use Rattle.version_export_past_spec.proofs.Changing.{table_found}
use Rattle.version_export_lines_spec.specs.Lines.{body_text}
use Rattle.smo_ops_types.specs.Operators.{create_table}
use Rattle.smo_ops_types.specs.Commands.{PlainBody, PlainCommand, PlainVersion}
use Rattle.smo_ops_spec.specs.InForce.{stamp_of}
use Rattle.smo_ops_spec.specs.Past.{State, Past, beginning, tables_of, version_at, database_at}
use Rattle.smo_ops_spec.specs.Past.{past_with, no_tables, tables_from}
use Rattle.smo_ops_spec.specs.History.{past_of}
use Rattle.smo_ops_spec.specs.ValidPast.{IsPast, AllUpTo, AllInForce, last_or_nought}
use Rattle.smo_ops_spec.specs.ValidValues.{HoldsValues, PastHolds}
use Rattle.smo_ops_spec.proofs.PastSteps.{beginning_is_past}
use Rattle.smo_ops_spec.proofs.ValueLaws.{beginning_holds, history_holds}
use Rattle.smo_ops_versions_spec.proofs.WayLeads.{valid_at, columns_at}
use Rattle.smo_ops_versions_spec.proofs.WayValues.{way_values}
use Rattle.smo_parse.specs.Texts.{operator_text}
use Rattle.smo_parse.specs.Productions.{IsCreateTable, IsOperator}
use Rattle.smo_parse.proofs.PrintedParts.{Printed, among}
use Rattle.script_parse.specs.Productions.{IsBody, IsEvolve}
use Rattle.version_export_past_spec.specs.Commands.{a_command}
use Rattle.version_export_past_spec.specs.Showing.{first_stamp, shown_by, tables_in, later_moments}
use Rattle.version_export_past_spec.specs.Blank.{IsCreated}
use Rattle.version_export_past_spec.proofs.EarlyMoments.{history_is_past}
use Rattle.version_export_past_spec.proofs.ShownDatabases.{shows_database}
use Rattle.version_export_past_spec.proofs.CreatedPast.{creation_accepted, is_created}
use Rattle.version_export_lines_spec.specs.Named.{IsReadable}
use Rattle.version_export_lines_spec.specs.Read.{AllShort, AllBefore}
use Rattle.version_export_lines_spec.proofs.Printing.{command_printed, evolve_printed}
use Rattle.version_export_lines_spec.proofs.Printing.{create_printed}
use Rattle.version_export_lines_spec.proofs.Printing.{few_printed}
use Rattle.version_export_lines_spec.proofs.RowLines.{AllLines, row_lines, read_back}
use Rattle.version_export_lines_spec.proofs.FewChanges.{short_few}
use Rattle.version_export.specs.Exported.{rows_exported, exported, creating_one, after_creation}
use Rattle.version_export.specs.Exported.{NoTableLost}
use Rattle.version_export.specs.Statements.{creation_text}
use Rattle.version_export.specs.Refused.{export_fault}
use Rattle.version_export.specs.Whole.{IsExportable, Creates, IsGood}
use Rattle.version_export.proofs.SameAnswers.{lost_never, rebuilds}
use Rattle.version_export.proofs.Unrefused.{is_version, no_table_lost, lines_short}

-- ---- moments before the end of time

moments_before : (first last : ℕ) (states : List State) → AllUpTo last states → last < forever
    → AllBefore (later_moments first states)
moments_before first last [] h l = tt
moments_before first last (s ∷ states) h l =
    step (moments_before first last states h.1 l) (nat_lt first s.stamp)
  where
    step : AllBefore (later_moments first states) → (b : Bool)
        → AllBefore (cond b (s.stamp ∷ later_moments first states) (later_moments first states))
    step more true = (let up = h.0 in omega (arith, up, l), more)
    step more false = more

first_before : (versions : List PlainVersion) (last : ℕ) → 1 ≤ length versions
    → AllInForce last versions → last < forever → stamp_of (slice_get versions 0) < forever
first_before [] last some h l = absurd (omega (arith, some))
first_before (v ∷ versions) last some h l = (let up = h.0 in omega (arith, up, l))

-- the text of the EVOLVE that creates one table
pub text_of_one : (t : NamedColumns) → body_text (creating_one (t ∷ [])) ≡ creation_text (t ∷ [])
unfolding operator_text
text_of_one t = refl

module _ (history : List PlainCommand) (version : ℕ) (h : IsExportable history version) where
  abbrev past : Past
  past = past_of history

  is_past : IsPast past
  is_past = history_is_past beginning history beginning_is_past h.is

  past_holds : PastHolds past
  past_holds = history_holds beginning history beginning_is_past h.is h.holds beginning_holds

  shown_holds : (m : ℕ) → HoldsValues (shown_by past version m)
  shown_holds m = way_values past.versions past_holds.versions (version_at past m) version
      (database_at past m) (past_holds.databases m)

  readable : (t : NamedColumns) → In t (tables_in past version) → IsReadable t
  readable t m =
      let names = h.free t m in
      let there = table_found (tables_of past version) t m in
      record {
        table = names.table;
        columns = names.columns;
        some = columns_at past.versions is_past.evolved version t.0 t.1 there;
        few = (valid_at past.versions is_past.evolved version).narrow t.0 t.1 there;
      }

  rows_print : NoTableLost past version → AllLines (rows_exported past version)
  rows_print none =
      let valid = valid_at past.versions is_past.evolved version in
      row_lines (tables_of past version) valid.schema valid.narrow readable
      (shown_by past version)
      (λ m. shows_database past version m is_past (lost_never past version is_past none h.ends m))
      shown_holds (later_moments (first_stamp past) past.states)
      (moments_before (first_stamp past) (last_or_nought past.last) past.states is_past.ended
      h.ends)

  begins_before : 1 ≤ version → version ≤ length past.versions → first_stamp past < forever
  begins_before from to = first_before past.versions (last_or_nought past.last)
      (omega (arith, from, to)) is_past.versions h.ends

  -- version 0 has no table
  some_version : (v : ℕ) → 1 ≤ length (tables_in past v) → 1 ≤ v
  some_version zero l = absurd (none past.versions l)
    where
      none : (vs : List PlainVersion) → 1 ≤ length (entries (tables_from no_tables vs 0)) → ⊥
      none [] k = (let a = len-empty bytes_cmp (List Column) in let b = len-entries no_tables in
          absurd (omega (arith, a, b, k)))
      none (v ∷ vs) k = (let a = len-empty bytes_cmp (List Column) in
          let b = len-entries no_tables in absurd (omega (arith, a, b, k)))
  some_version (suc v) l = omega arith

  -- a version with tables
  with_tables : 1 ≤ version → version ≤ length past.versions
      → (creating : List NamedColumns → PlainBody) → Creates creating past version
      → NoTableLost past version
      → AllShort (a_command (first_stamp past) (creating (tables_in past version))
      ∷ rows_exported past version)
      → IsGood (a_command (first_stamp past) (creating (tables_in past version))
      ∷ rows_exported past version) past version
  with_tables from to creating c none short = record {
    read = read_back (a_command (first_stamp past) (creating (tables_in past version))
        ∷ rows_exported past version) (
          (command_printed (a_command (first_stamp past) (creating (tables_in past version)))
              (let b = begins_before from to in omega (arith, b)) c.printed),
          rows_print none,
        ) short;
    rebuilds = rebuilds history h.is version none h.ends
        (short_few (rows_exported past version) short.1) (creating (tables_in past version))
        c.accepted c.creates;
  }

  pub good : (creating : List NamedColumns → PlainBody) → 1 ≤ length (tables_in past version)
      → Creates creating past version → export_fault past version ≡ None
      → IsGood (exported creating past version) past version
  good creating some c e = by_tables (tables_in past version) refl some
      (lines_short past version e creating c.text)
    where
      by_tables : (ts : List NamedColumns) → tables_in past version ≡ ts → 1 ≤ length ts
          → AllShort (after_creation creating (first_stamp past) (tables_in past version)
          (rows_exported past version))
          → IsGood (after_creation creating (first_stamp past) (tables_in past version)
          (rows_exported past version)) past version
      by_tables [] q l s = absurd (omega (arith, l))
      by_tables (t ∷ ts) q l s = subst (λ (us : List NamedColumns).
          IsGood (after_creation creating (first_stamp past) us (rows_exported past version)) past
          version) (sym q)
          (subst (λ (us : List NamedColumns). IsGood (a_command (first_stamp past) (creating us)
          ∷ rows_exported past version) past version) q
          (with_tables (some_version version some) (is_version past version e) creating c
          (no_table_lost past version e)
          (subst (λ (us : List NamedColumns). AllShort (a_command (first_stamp past) (creating us)
          ∷ rows_exported past version)) (sym q)
          (subst (λ (us : List NamedColumns). AllShort (after_creation creating (first_stamp past)
          us (rows_exported past version))) q s))))

  -- ---- a version of one table

  pub one_creates : (t : NamedColumns) → tables_in past version ≡ t ∷ []
      → Creates creating_one past version
  one_creates t e = record {
    accepted = subst (λ (ts : List NamedColumns). command_fault
        beginning (a_command (first_stamp past) (creating_one ts)) ≡ None) (sym e)
        (creation_accepted t are r.some r.few (first_stamp past));
    creates = subst (λ (ts : List NamedColumns). IsCreated (tables_of past version)
        (first_stamp past) (past_with beginning
        (a_command (first_stamp past) (creating_one ts)))) (sym e)
        (is_created t are r.some r.few (first_stamp past) (tables_of past version) e);
    text = one_text (tables_in past version) e;
    printed = subst (λ (ts : List NamedColumns). Printed IsBody 0 (creating_one ts)
        (body_text (creating_one ts))) (sym e)
        (among IsEvolve IsBody 0 _ _ (λ s f k. inl k) (evolve_printed (create_table t.0 t.1)
        (few_printed IsOperator (create_table t.0 t.1) _ (among IsCreateTable IsOperator 0 _ _
        (λ s f k. inr (inl k)) (create_printed t r)))));
  }
    where
      there : In t (tables_in past version)
      there = subst (λ (ts : List NamedColumns). In t ts) (sym e) (inl refl)

      r : IsReadable t
      r = readable t there

      one_text : (ts : List NamedColumns) → ts ≡ t ∷ []
          → body_text (creating_one ts) ≡ creation_text ts
      one_text ts q = subst (λ (us : List NamedColumns).
          body_text (creating_one us) ≡ creation_text us) (sym q) (text_of_one t)

      are : AreColumns t.1
      are = (valid_at past.versions is_past.evolved version).schema t.0 t.1
          (table_found (tables_of past version) t there)

  pub one_good : (t : NamedColumns) → tables_in past version ≡ t ∷ []
      → export_fault past version ≡ None
      → IsGood (exported creating_one past version) past version
  one_good t e f = good creating_one (subst (λ (ts : List NamedColumns). 1 ≤ length ts) (sym e)
      (omega arith)) (one_creates t e) f
