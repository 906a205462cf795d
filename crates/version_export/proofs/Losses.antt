-- Where the query over a table has no loss, the table is lost at no moment; and a query none of
-- whose items is lost is accepted where it is accepted on the other version.
use Rattle.std.specs.Prelude.{◌≡◌, ◌≤◌, ◌<◌, ◌+◌, ◌++◌, ℕ, zero, suc, List, [], ◌∷◌, Option}
use Rattle.std.specs.Prelude.{Some, None, length, nat_le, nat_lt, true, map}
use Rattle.std.proofs.Common.{refl, sym, ap, ◌∙◌, inl, arith}
use Rattle.std.proofs.lemmas.Bool.Decides.{nat_tests}
use Rattle.std.specs.Option.{option_or}
use Rattle.relations_spec.specs.Spans.{forever}
use Rattle.prima_base.specs.declared.refusal.Refusal.TheVariants.{NoVersion, EmptyPeriod}
use Rattle.schema_catalog.specs.Tables.{Tables}
use Rattle.smo_ops_spec.specs.First.{unless, first_refusal}
use Rattle.smo_ops_spec.specs.Checks.{Fault}
use Rattle.smo_ops_spec.specs.Past.{Past, tables_of, version_at}
use Rattle.smo_ops_spec.proofs.Firsts.{none_of_first, none_of_both, first_later, first_after}
use Rattle.smo_ops_spec.proofs.Firsts.{met}
use Rattle.smo_ops_versions_spec.specs.ColumnLosses.{NothingLost}
use Rattle.smo_ops_versions_spec.specs.LostNames.{lost_names}
use Rattle.smo_ops_versions_spec.proofs.MappedTables.{not_mapped}
use Rattle.temporal_lang_types.specs.declared.when.When.{When}
use Rattle.temporal_lang_types.specs.declared.when.When.TheVariants.{Always, AsOf, During}
use Rattle.temporal_lang_types.specs.Queries.{PlainQuery, IsLasting}
use Rattle.temporal_lang_spec.specs.Losing.{loss_at, first_from, first_lost, query_asked}
use Rattle.temporal_lang_spec.specs.Checking.{excess_of, excess_fault, query_tests, names_tests}
use Rattle.temporal_lang_spec.specs.Checking.{typing_tests, period_tests, when_fault, keep_fault}
use Rattle.temporal_lang_spec.specs.Atoms.{branch_with_atoms, branches_with_atoms}
use Rattle.temporal_lang_spec.specs.Accepted.{fault_of_query, version_fault, loss_fault}
use Rattle.temporal_lang_spec.proofs.FirstLaws.{no_loss}
use Rattle.temporal_lang_spec.proofs.ItemsLost.{tables_there, no_item_lost}
use Rattle.version_export_past_spec.specs.Showing.{NoneLost}
use Rattle.version_export.specs.Exported.{whole_branch, whole_query, NoTableLost, on_version}

-- ---- nowhere is nowhere

none_or : {X : Type 0} (a b : Option X) → option_or a b ≡ None → (a ≡ None) × (b ≡ None)
none_or None b e = (refl, e)
none_or (Some x) b e = absurd (cc)

none_at : {X : Type 0} (at : ℕ → Option X) (m n j : ℕ) → first_from at m n ≡ None → j < n
    → at (m + j) ≡ None
unfolding first_from
none_at at m zero j e l = absurd (omega arith)
none_at at m (suc n) zero e l = ap at same ∙ (none_or (at m) (first_from at (m + 1) n) e).0
  where
    same : m + 0 ≡ m
    same = omega arith
none_at at m (suc n) (suc j) e l = ap at same ∙ none_at at (m + 1) n j
    (none_or (at m) (first_from at (m + 1) n) e).1 (omega (arith, l))
  where
    same : m + suc j ≡ m + 1 + j
    same = omega arith

pub none_lost_at : (past : Past) (version m : ℕ) → NoTableLost past version → m < forever
    → NoneLost past version m
none_lost_at past version m h l t i =
    not_mapped past.versions (version_at past m) version t.0
    (tables_there (lost_names past.versions (version_at past m) version)
    (query_asked past (whole_query version t)).branches
    (ap (loss_at past (whole_query version t)) same
    ∙ none_at (loss_at past (whole_query version t)) 0 forever m (h t i) l)
    (branch_with_atoms (tables_of past version) (whole_branch t)) (inl refl) (t.0, t.0) (inl refl))
  where
    same : m ≡ 0 + m
    same = omega arith

-- ---- a query on the other version

module _ (past : Past) (query : PlainQuery) (accepted : fault_of_query past query ≡ None) where
  abbrev last_tests : List Fault
  last_tests = query_tests (tables_of past query.version) query
      ++ loss_fault past.versions (first_lost past query) ∷ []

  counted : (excess_fault (excess_of query) ≡ None)
      × (first_refusal (version_fault past query.version ∷ last_tests) ≡ None)
  counted = none_of_first (excess_fault (excess_of query))
      (version_fault past query.version ∷ last_tests) accepted

  there : (version_fault past query.version ≡ None) × (first_refusal last_tests ≡ None)
  there = none_of_first (version_fault past query.version) last_tests counted.1

  tested : first_refusal (query_tests (tables_of past query.version) query) ≡ None
  tested = (none_of_both (query_tests (tables_of past query.version) query)
      (loss_fault past.versions (first_lost past query) ∷ []) there.1).0

  pub lasting : IsLasting query.when
  lasting =
      let a = none_of_both (names_tests (tables_of past query.version) query.branches)
      (typing_tests (tables_of past query.version)
      (branches_with_atoms (tables_of past query.version) query.branches)
      ++ period_tests query.when query.keep) tested in
      let b = none_of_both (typing_tests (tables_of past query.version)
      (branches_with_atoms (tables_of past query.version) query.branches))
      (period_tests query.when query.keep) a.1 in
      let c = none_of_first (when_fault query.when) (map keep_fault query.keep) b.1 in
      by_when query.when c.0
    where
      by_when : (w : When) → when_fault w ≡ None → IsLasting w
      by_when Always e = omega arith
      by_when (AsOf m) e = omega arith
      by_when (During a b) e = (let h = met (nat_lt a b) (EmptyPeriod a b) e in
          grind (arith, nat_tests, h))

  module _ (other : Past) (same : tables_of past query.version ≡ tables_of other 1)
      (one : 1 ≤ length other.versions)
      (kept : (m : ℕ) → NothingLost (lost_names other.versions (version_at other m) 1)) where
    fits : nat_le 1 (length other.versions) ≡ true
    fits = grind (arith, one)

    nothing_lost : first_lost other (on_version 1 query) ≡ None
    nothing_lost = no_loss other (query_asked other (on_version 1 query)) (λ m a b.
        no_item_lost (lost_names other.versions (version_at other m) 1) (kept m)
        (query_asked other (on_version 1 query)).branches)

    pub accepted_there : fault_of_query other (on_version 1 query) ≡ None
    accepted_there =
        first_later (excess_fault (excess_of query)) _ counted.0
        ∙ first_later (version_fault other 1) _
        (ap (λ b. unless b (NoVersion 1 (length other.versions))) fits)
        ∙ first_after (query_tests (tables_of other 1) (on_version 1 query))
        (loss_fault other.versions (first_lost other (on_version 1 query)) ∷ [])
        (ap (λ (t : Tables). first_refusal (query_tests t query)) (sym same) ∙ tested)
        ∙ ap (λ o. first_refusal (loss_fault other.versions o ∷ [])) nothing_lost
