-- The lines of the tables that were seen are those of the version.
use Rattle.std.specs.Prelude.{◌≡◌, ◌≤◌, ◌<◌, ◌++◌, ℕ, Bool, true, false, List, [], ◌∷◌, map}
use Rattle.std.specs.Prelude.{length, nat_le, None, Some, Option, Result, Ok, Err}
use Rattle.std.proofs.Common.{refl, sym, ap, subst, ◌∙◌, inl, inr, arith}
use Rattle.std.proofs.lemmas.Bool.Decides.{nat_tests}
use Rattle.std.specs.Global.{Vec}
use Rattle.std.specs.Option.{option_map}
use Rattle.relations_spec.specs.Sets.{In}
use Rattle.relations_spec.specs.Spans.{forever}
use Rattle.prima_base.specs.declared.refusal.OpKind.{OpKind}
use Rattle.schema_catalog.specs.Places.{NamedColumns}
use Rattle.schema_catalog.specs.Databases.{IsDatabase}
use Rattle.smo_ops_types.specs.Commands.{PlainCommand}
use Rattle.smo_ops_spec.specs.First.{unless, first_refusal}
use Rattle.smo_ops_spec.specs.Past.{Past, tables_of}
use Rattle.smo_ops_spec.specs.ValidPast.{IsPast, last_or_nought}
use Rattle.smo_ops_spec.proofs.Firsts.{first_after, first_before, first_at, first_later}
use Rattle.temporal_lang_spec.specs.Losing.{first_lost}
use Rattle.version_export_past_spec.specs.Showing.{first_stamp, shown_by, tables_in}
use Rattle.version_export_past_spec.proofs.ShownDatabases.{shows_database}
use Rattle.version_export.specs.declared.fault.ExportFault.{ExportFault}
use Rattle.version_export.specs.declared.fault.ExportFault.TheVariants.{NoVersion, NoInverse}
use Rattle.version_export.specs.declared.fault.ExportFault.TheVariants.{TooLong, NoMemory}
use Rattle.version_export.specs.declared.seen.SeenFault.{SeenFault}
use Rattle.version_export.specs.declared.seen.SeenFault.TheVariants.{NoInverse as SeenNoInverse}
use Rattle.version_export.specs.declared.seen.SeenFault.TheVariants.{NoMemory as SeenNoMemory}
use Rattle.version_export.specs.declared.seen_table.SeenTable.{SeenTable}
use Rattle.version_export.specs.Exported.{whole_query, NoTableLost, rows_exported}
use Rattle.version_export.specs.Seen.{rows_listed}
use Rattle.version_export.specs.SeenTables.{AllShow, AreSeenTables}
use Rattle.version_export.specs.ByListings.{all_listed_of, commands_listed}
use Rattle.version_export.specs.Statements.{Statement, statement_of, after_creates, statements}
use Rattle.version_export.specs.Refused.{Fault, no_version, no_inverse, by_loss, version_test}
use Rattle.version_export.specs.Refused.{table_test, length_test, export_fault}
use Rattle.version_export.specs.Written.{tables_seen, table_statements, AreLines, IsExport}
use Rattle.version_export.specs.Written.{fault_of_seen}
use Rattle.version_export.proofs.ByListings.{rows_by_listings}
use Rattle.version_export.proofs.SameAnswers.{lost_never}

module _ (past : Past) (version : ℕ) where
  abbrev table_tests : List (Option Fault)
  table_tests = map (table_test past version) (tables_in past version)

  abbrev length_tests : List (Option Fault)
  length_tests = map length_test (statements past version)

  -- ---- a version that is not there

  not_met : (b : Bool) (r : Fault) → b ≡ false → unless b r ≡ Some r
  not_met true r e = absurd (cc)
  not_met false r e = refl

  pub no_version_fault : (newest : ℕ) → newest ≡ length past.versions
      → length past.versions < version
      → export_fault past version ≡ Some (no_version version newest)
  no_version_fault newest e l =
      first_at (version_test past version) (table_tests ++ length_tests)
      (no_version version newest)
      (not_met (nat_le version (length past.versions)) (no_version version (length past.versions))
      (grind (arith, nat_tests, l))
      ∙ ap (λ n. Some (no_version version n)) (sym e))

  -- ---- a table that is lost

  met : (b : Bool) (r : Fault) → b ≡ true → unless b r ≡ None
  met true r e = refl
  met false r e = absurd (cc)

  module _ (there : version ≤ length past.versions) where
    version_met : version_test past version ≡ None
    version_met = met (nat_le version (length past.versions))
        (no_version version (length past.versions)) (grind (arith, nat_tests, there))

    lost_fault : (k : ℕ) (kind : OpKind) → first_refusal table_tests ≡ Some (no_inverse k kind)
        → export_fault past version ≡ Some (no_inverse k kind)
    lost_fault k kind e =
        first_later (version_test past version) (table_tests ++ length_tests) version_met
        ∙ first_before table_tests length_tests (no_inverse k kind) e

    told_of_seen : (fault : SeenFault) → AreSeenTables past version (Err fault)
        → IsExport past version (Err (fault_of_seen fault))
    told_of_seen (SeenNoInverse k kind) a = lost_fault k kind a
    told_of_seen SeenNoMemory a = tt

    pub seen_fault_told : (fault : SeenFault) (told : ExportFault) → told ≡ fault_of_seen fault
        → AreSeenTables past version (Err fault) → IsExport past version (Err told)
    seen_fault_told fault told e a = subst (λ (f : ExportFault). IsExport past version (Err f))
        (sym e) (told_of_seen fault a)

    -- ---- what is seen of the tables

    no_loss : (us : List NamedColumns) (ss : List SeenTable) → AllShow past version us ss
        → first_refusal (map (table_test past version) us) ≡ None
    no_loss [] [] h = refl
    no_loss [] (s ∷ ss) h = absurd h
    no_loss (u ∷ us) [] h = absurd h
    no_loss (u ∷ us) (s ∷ ss) h =
        first_later (table_test past version u) (map (table_test past version) us)
        (ap (option_map (by_loss past.versions)) h.0.none)
        ∙ no_loss us ss h.1

    none_lost : (us : List NamedColumns) (ss : List SeenTable) → AllShow past version us ss
        → (t : NamedColumns) → In t us → first_lost past (whole_query version t) ≡ None
    none_lost [] ss h t i = absurd i
    none_lost (u ∷ us) [] h t i = absurd h
    none_lost (u ∷ us) (s ∷ ss) h t (inl e) =
        ap (λ (v : NamedColumns). first_lost past (whole_query version v)) (sym e) ∙ h.0.none
    none_lost (u ∷ us) (s ∷ ss) h t (inr i) = none_lost us ss h.1 t i

    same_tables : (us : List NamedColumns) (ss : List SeenTable) → AllShow past version us ss
        → tables_seen ss ≡ us
    same_tables [] [] h = refl
    same_tables [] (s ∷ ss) h = absurd h
    same_tables (u ∷ us) [] h = absurd h
    same_tables (u ∷ us) (s ∷ ss) h = λ i. h.0.table i ∷ same_tables us ss h.1 i

    same_listed : (us : List NamedColumns) (ss : List SeenTable) → AllShow past version us ss
        → all_listed_of ss ≡ map (λ (t : NamedColumns). (t, rows_listed past version t)) us
    same_listed [] [] h = refl
    same_listed [] (s ∷ ss) h = absurd h
    same_listed (u ∷ us) [] h = absurd h
    same_listed (u ∷ us) (s ∷ ss) h = λ i. (h.0.table i, h.0.rows i) ∷ same_listed us ss h.1 i

    module _ (h : IsPast past) (ends : last_or_nought past.last < forever) (ss : List SeenTable)
        (all : AllShow past version (tables_in past version) ss) where
      none : NoTableLost past version
      none t i = none_lost (tables_in past version) ss all t i

      shows : (m : ℕ) → IsDatabase (tables_of past version) (shown_by past version m)
      shows m = shows_database past version m h (lost_never past version h none ends m)

      rows_are : commands_listed (first_stamp past) (all_listed_of ss) ≡ rows_exported past version
      rows_are = ap (commands_listed (first_stamp past))
          (same_listed (tables_in past version) ss all)
          ∙ sym (rows_by_listings past version h ends shows)

      pub statements_of : table_statements (first_stamp past) ss ≡ statements past version
      statements_of =
          ap (λ (us : List NamedColumns). after_creates (first_stamp past) us (map statement_of
          (commands_listed (first_stamp past) (all_listed_of ss))))
          (same_tables (tables_in past version) ss all)
          ∙ ap (λ (cs : List PlainCommand). after_creates (first_stamp past)
          (tables_in past version) (map statement_of cs)) rows_are

      by_lengths : export_fault past version ≡ first_refusal length_tests
      by_lengths =
          first_later (version_test past version) (table_tests ++ length_tests) version_met
          ∙ first_after table_tests length_tests (no_loss (tables_in past version) ss all)

      as_lines : (r : Result (Vec (Vec ℕ)) ExportFault) → AreLines (statements past version) r
          → IsExport past version r
      as_lines (Ok lines) a = (by_lengths ∙ a.0, a.1)
      as_lines (Err (NoVersion asked newest)) a = absurd a
      as_lines (Err (NoInverse k kind)) a = absurd a
      as_lines (Err (TooLong stamp size)) a = by_lengths ∙ a
      as_lines (Err NoMemory) a = tt

      pub is_export : (first : ℕ) (r : Result (Vec (Vec ℕ)) ExportFault)
          → first ≡ first_stamp past → AreLines (table_statements first ss) r
          → IsExport past version r
      is_export first r e a = as_lines r (subst (λ (us : List Statement). AreLines us r)
          (ap (λ f. table_statements f ss) e ∙ statements_of) a)
