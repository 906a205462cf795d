-- Why paired queries are refused, and aggregates.
use Rattle.std.specs.Prelude.{◌≡◌, ◌≤◌, ℕ, List, [], ◌∷◌, ◌++◌, map, min, Some, None, Result}
use Rattle.std.specs.Prelude.{Ok, Err}
use Rattle.std.specs.Prelude.{MatchResult, IfOk, nat_le, true}
use Rattle.std.specs.Option.{option_map}
use Rattle.std.proofs.Common.{refl, sym, ap, subst, ◌∙◌, arith}
use Rattle.std.proofs.lemmas.Bool.Decides.{nat_tests}
use Rattle.relations_spec.specs.Spans.{always, forever}
use Rattle.relations_spec.specs.Timed.{Entry, at}
use Rattle.relations_spec.specs.Listing.{IsListing, entry_cmp}
use Rattle.relations_spec.specs.Sets.{Ascends}
use Rattle.relations_spec.proofs.SetLaws.{set_ascends}
use Rattle.prima_base.specs.Faults.{IsTested, IsTestedAs}
use Rattle.prima_base.specs.Keeping.{kept, keeps_all}
use Rattle.prima_base.specs.Order.{row_cmp}
use Rattle.prima_base.specs.OrderLaws.{row_exact}
use Rattle.prima_base.specs.Timed.{rows_at, entries_of}
use Rattle.prima_base.specs.declared.fault.CallFault.{CallFault}
use Rattle.prima_base.specs.declared.fault.CallFault.TheVariants.{Refused, NoMemory}
use Rattle.prima_base.specs.declared.refusal.Refusal.{Refusal}
use Rattle.answer_text.specs.declared.listing.Listing.{Listing}
use Rattle.schema_catalog.specs.Tables.{Tables}
use Rattle.smo_ops_spec.specs.First.{first_refusal}
use Rattle.smo_ops_spec.specs.Checks.{Fault}
use Rattle.smo_ops_spec.specs.OneRow.{Row}
use Rattle.smo_ops_spec.specs.Past.{Past, tables_of}
use Rattle.smo_ops_spec.proofs.Firsts.{first_before, none_of_both}
use Rattle.temporal_lang_types.specs.declared.agg_item.AggItem.{AggItem}
use Rattle.temporal_lang_types.specs.Queries.{PlainQuery, slice_of}
use Rattle.temporal_lang_spec.specs.Accepted.{version_fault, loss_fault, tests_of_query}
use Rattle.temporal_lang_spec.specs.Accepted.{fault_of_query}
use Rattle.temporal_lang_spec.specs.Answers.{asked_at, IsListingOf, listing, answer}
use Rattle.temporal_lang_spec.specs.Losing.{first_lost}
use Rattle.temporal_lang_spec.specs.Checking.{excess_of, excess_fault, query_tests}
use Rattle.temporal_lang_spec.specs.PairFaults.{branches_nodes, behind, fault_of_pairs}
use Rattle.temporal_lang_spec.specs.AggregateFaults.{aggregate_tests_over, aggregate_fault}
use Rattle.temporal_lang_spec.specs.AggregateFaults.{aggregate_checks, fault_of_aggregate}
use Rattle.temporal_lang_spec.proofs.PairFaultLaws.{left_decides, right_decides, behind_most}
use Rattle.temporal_lang_spec.proofs.AggregateFaultLaws.{checks_decide, query_decides}
use Rattle.time_aggregate.specs.Aggregates.{IsAggregated}
use Rattle.time_aggregate.specs.Aggregated.{aggregated}
use Rattle.time_aggregate.proofs.AggregatedLaws.{aggregated_lists}
use Rattle.time_aggregate.proofs.GroupLaws.{told_of_slice}
use Rattle.time_aggregate.proofs.KeptLaws.{kept_lists}
use Rattle.script_cli_vault.specs.ArchiveOnDisk.{IsAsked, IsListed, IsWrong, IsKeptOfList}
use Rattle.script_cli_vault.specs.ArchiveOnDisk.{IsAskedSchema}
use Rattle.script_cli_statement.specs.Paired.{AreListed, IsWrongPair}
use Rattle.script_cli_statement.specs.Grouped.{IsListedWhole, IsWrongAggregate, IsUnnamed}

-- ---- pairs

module _ (past : Past) (left right : PlainQuery) where
  pub left_wrong : (fault : CallFault Refusal) → IsWrong past left fault
      → IsWrongPair past left right fault
  left_wrong (Refused r) h = left_decides past left right r h
  left_wrong NoMemory h = tt

  pub right_wrong : (nodes : ℕ) (fault answered : CallFault Refusal)
      → nodes ≡ min (branches_nodes left.branches) 18446744073709551615
      → fault_of_query past left ≡ None
      → ((wrong : Fault) → IsTested {A = Listing} wrong (Err fault)
      → IsTested {A = Listing} (option_map (behind nodes) wrong) (Err answered))
      → IsWrong past right fault → IsWrongPair past left right answered
  right_wrong nodes fault answered e fine more h =
      let n = branches_nodes left.branches in
      let same : (r : Refusal) → behind nodes r ≡ behind n r =
      (λ r. ap (λ (m : ℕ). behind m r) e ∙ behind_most n r) in
      let is : option_map (behind nodes) (fault_of_query past right)
      ≡ fault_of_pairs past left right =
      (λ i. option_map (λ r. same r i) (fault_of_query past right))
      ∙ sym (right_decides past left right fine) in
      subst (λ (f : Fault). IsTested {A = Listing} f (Err answered)) is
      (more (fault_of_query past right) h)

  pub both_listed : (first second : Listing) → IsListed past left first
      → IsListed past right second → AreListed past left right first second
  both_listed first second h k = record {
    accepted = right_decides past left right h.accepted
        ∙ ap (option_map (behind (branches_nodes left.branches))) k.accepted;
    first_is = h.rows;
    second_is = k.rows;
  }

-- ---- aggregates

tested_as : {A : Type 0} (so : A → Type 0) (fault other : Fault) → fault ≡ other
    → (result : Result A (CallFault Refusal)) → IsTestedAs so fault result
    → IsTested other result
tested_as so fault other e (Ok a) h = sym e ∙ h.0
tested_as so fault other e (Err (Refused r)) h = sym e ∙ h
tested_as so fault other e (Err NoMemory) h = tt

module _ (past : Past) (query : PlainQuery) (items : List AggItem) (group : ℕ) where
  abbrev rest_of_tests : Tables → List Fault
  rest_of_tests tables = query_tests tables query
      ++ aggregate_tests_over tables items group query

  later_tests : (excess version : Fault) (tests : List Fault) → excess ≡ None → version ≡ None
      → first_refusal (excess ∷ tests) ≡ first_refusal (excess ∷ version ∷ tests)
  later_tests excess version tests e f = rw (e, f) refl

  version_there : (v n : ℕ) → v ≤ n → nat_le v n ≡ true
  version_there v n h = grind (arith, nat_tests)

  schema_checks : (tables : Tables) → IsAskedSchema past query tables
      → aggregate_fault tables items group query
      ≡ first_refusal (aggregate_checks past items group query)
  schema_checks tables h =
      let there : version_fault past query.version ≡ None =
      rw (version_there query.version _ h.there) refl in
      ap (λ (t : Tables). first_refusal (excess_fault (excess_of query) ∷ rest_of_tests t))
      h.schema
      ∙ later_tests (excess_fault (excess_of query)) (version_fault past query.version)
      (rest_of_tests (tables_of past query.version)) (ap excess_fault h.few) there

  pub checks_tested : {A : Type 0} (so : A → Type 0) (tables : Tables)
      → IsAskedSchema past query tables → (result : Result A (CallFault Refusal))
      → IsTestedAs so (aggregate_fault tables items group query) result
      → IsTested (first_refusal (aggregate_checks past items group query)) result
  checks_tested so tables h result t = tested_as so (aggregate_fault tables items group query)
      (first_refusal (aggregate_checks past items group query)) (schema_checks tables h) result t

  pub unnamed_tested : (A : Type 0) (fault : CallFault Refusal) → IsUnnamed past query fault
      → IsTested {A = A} (first_refusal (aggregate_checks past items group query)) (Err fault)
  unnamed_tested A (Refused r) h = first_before
      (excess_fault (excess_of query) ∷ version_fault past query.version ∷ [])
      (rest_of_tests (tables_of past query.version)) r h
  unnamed_tested A NoMemory h = tt

  pub checks_wrong : (fault : CallFault Refusal)
      → IsTested {A = Listing} (first_refusal (aggregate_checks past items group query))
      (Err fault) → IsWrongAggregate past query items group fault
  checks_wrong (Refused r) h = checks_decide past items group query r h
  checks_wrong NoMemory h = tt

  pub asked_whole : (result : Result Listing (CallFault Refusal))
      → first_refusal (aggregate_checks past items group query) ≡ None
      → IsAsked past query result
      → MatchResult result (λ listing. IsListedWhole past query items group listing)
      (λ fault. IsWrongAggregate past query items group fault)
  asked_whole (Ok listing) fine h = record {
    accepted = query_decides past items group query fine ∙ h.accepted;
    rows = h.rows;
    periods = h.periods;
  }
  asked_whole (Err fault) fine h = subst (λ (f : Fault). IsTested {A = Listing} f (Err fault))
      (sym (query_decides past items group query fine)) h

pub lists_kept : (past : Past) (query : PlainQuery) → (slice_of query.when).end ≤ forever
    → (result : Result Listing (CallFault Refusal))
    → IfOk result (λ listing. IsKeptOfList past query listing)
    → IfOk result (λ listing. IsListing row_cmp (rows_at listing.rows.items) always
    (entries_of listing.rows.items))
lists_kept past query most (Ok listing) h = subst (λ (es : List (Entry Row)).
    IsListing row_cmp (at row_cmp es) always es) (sym h.keeps)
    (kept_lists row_cmp row_exact (asked_at past query) (slice_of query.when) h.entries h.list
    (λ e. keeps_all query.keep e.period) most)
lists_kept past query most (Err fault) h = tt

-- ---- pairs of what is listed

module _ (past : Past) (left right : PlainQuery) where
  -- neither query of a PAIRS that is not refused would be refused by itself
  pub left_fine : fault_of_pairs past left right ≡ None → fault_of_query past left ≡ None
  left_fine h = (none_of_both (tests_of_query past left)
      (map (option_map (behind (branches_nodes left.branches))) (tests_of_query past right)) h).0

  pub right_fine : fault_of_pairs past left right ≡ None → fault_of_query past right ≡ None
  right_fine h = none_mapped (fault_of_query past right)
      (sym (right_decides past left right (left_fine h)) ∙ h)
    where
      none_mapped : (fault : Fault)
          → option_map (behind (branches_nodes left.branches)) fault ≡ None → fault ≡ None
      none_mapped None e = refl
      none_mapped (Some r) e = absurd (cc)

pub answer_ascends : (past : Past) (query : PlainQuery) → (slice_of query.when).end ≤ forever
    → IsListingOf past query (listing past query) → Ascends (entry_cmp row_cmp) (answer past query)
answer_ascends past query most lists = (kept_lists row_cmp row_exact (asked_at past query)
    (slice_of query.when) (listing past query) lists (λ e. keeps_all query.keep e.period)
    most).ascending

-- ---- what aggregates have of what is asked at each moment

kept_all : (entries : List (Entry Row)) → kept [] entries ≡ entries
kept_all [] = refl
kept_all (e ∷ entries) = ap (λ (es : List (Entry Row)). e ∷ es) (kept_all entries)

module _ (past : Past) (items : List AggItem) (group : ℕ) (query : PlainQuery) where
  -- the query of an aggregate that is not refused would not be refused by itself
  pub query_fine : fault_of_aggregate past items group query ≡ None
      → fault_of_query past query ≡ None
  query_fine h = sym (query_decides past items group query
      (none_of_both (aggregate_checks past items group query)
      (loss_fault past.versions (first_lost past query) ∷ []) h).0) ∙ h

  -- the list is the one of the groups of what is asked at each moment of the slice
  pub aggregated_is : query.keep ≡ [] → (slice_of query.when).end ≤ forever
      → IsListingOf past query (listing past query)
      → IsAggregated group items (asked_at past query) (slice_of query.when)
      (aggregated group items (answer past query))
  aggregated_is full most lists =
      let same : answer past query ≡ listing past query =
      ap (λ k. kept k (listing past query)) full ∙ kept_all (listing past query) in
      subst (λ (es : List (Entry Row)). IsAggregated group items (asked_at past query)
      (slice_of query.when) (aggregated group items es)) (sym same)
      (told_of_slice group items (asked_at past query) (slice_of query.when)
      (listing past query) (aggregated group items (listing past query)) most
      (λ m. set_ascends row_cmp row_exact _) lists
      (aggregated_lists group items (listing past query)))
