-- The steps of a query's check in their order: counts, names, types and arities, periods.
use Rattle.std.specs.Prelude.{◌≡◌, ◌≤◌, ◌⊎◌, List, ◌++◌, length, Option, Some, None, Err}
use Rattle.std.specs.Prelude.{IsOkUnless, IsErrOf}
use Rattle.std.proofs.Common.{refl, sym, ap, ◌∙◌, inl, inr, arith}
use Rattle.std.proofs.lemmas.List.{length-map}
use Rattle.prima_base.specs.declared.keep.Keep.{Keep}
use Rattle.prima_base.specs.declared.refusal.Refusal.{Refusal}
use Rattle.schema_catalog.specs.Tables.{Tables}
use Rattle.smo_ops_spec.specs.First.{first_refusal}
use Rattle.smo_ops_spec.specs.Checks.{Fault}
use Rattle.smo_ops_spec.proofs.Firsts.{first_after, first_before, first_later}
use Rattle.temporal_lang_types.specs.declared.branch.Branch.{Branch}
use Rattle.temporal_lang_types.specs.declared.query.Query.{Query}
use Rattle.temporal_lang_types.specs.declared.when.When.{When}
use Rattle.prima_base.specs.declared.fault.CallFault.{CallFault}
use Rattle.prima_base.specs.declared.fault.CallFault.TheVariants.{Refused, NoMemory}
use Rattle.plain_answers_spec.specs.Branches.{PlainBranch}
use Rattle.temporal_lang_types.specs.Branches.{branch_of, branches_of, IsQuery}
use Rattle.temporal_lang_types.specs.Queries.{PlainQuery}
use Rattle.temporal_lang_spec.specs.Atoms.{branch_with_atoms, branches_with_atoms}
use Rattle.prima_base.specs.Faults.{IsTested}
use Rattle.temporal_lang_spec.specs.Checking.{IsQueryChecked, excess_of, excess_fault, names_tests}
use Rattle.temporal_lang_spec.specs.Checking.{typing_tests, period_tests, query_tests, query_fault}
use Rattle.temporal_lang_spec.proofs.BranchLaws.{still_parts}

-- ---- which test decides

module _ (tables : Tables) (query : PlainQuery) (few : excess_of query ≡ None) where
  after_counts : query_fault tables query ≡ first_refusal (query_tests tables query)
  after_counts = first_later (excess_fault (excess_of query)) (query_tests tables query)
      (ap excess_fault few)

  pub names_first : (r : Refusal) → first_refusal (names_tests tables query.branches) ≡ Some r
      → query_fault tables query ≡ Some r
  names_first r h = after_counts
      ∙ first_before (names_tests tables query.branches)
      (typing_tests tables (branches_with_atoms tables query.branches)
      ++ period_tests query.when query.keep) r h

  module _ (named : first_refusal (names_tests tables query.branches) ≡ None) where
    after_names : query_fault tables query ≡ first_refusal
        (typing_tests tables (branches_with_atoms tables query.branches)
        ++ period_tests query.when query.keep)
    after_names = after_counts
        ∙ first_after (names_tests tables query.branches)
        (typing_tests tables (branches_with_atoms tables query.branches)
        ++ period_tests query.when query.keep) named

    pub typing_next : (r : Refusal) → first_refusal
        (typing_tests tables (branches_with_atoms tables query.branches)) ≡ Some r
        → query_fault tables query ≡ Some r
    typing_next r h = after_names ∙ first_before
        (typing_tests tables (branches_with_atoms tables query.branches))
        (period_tests query.when query.keep) r h

    -- where types and arities are right, the periods decide
    pub periods_last : first_refusal (typing_tests tables
        (branches_with_atoms tables query.branches)) ≡ None
        → query_fault tables query ≡ first_refusal (period_tests query.when query.keep)
    periods_last typed = after_names ∙ first_after
        (typing_tests tables (branches_with_atoms tables query.branches))
        (period_tests query.when query.keep) typed

-- ---- where a test that decides is not met

pub both_ways : {A P : Type 0} (o : Option A) (a : A) → o ≡ None → o ≡ Some a → P
both_ways o a p q = absurd (cc)

same_some : {A : Type 0} (a b : A) → Some a ≡ Some b → a ≡ b
same_some a b e = cc

pub stop_checked : (tables : Tables) (query : PlainQuery) (f : Fault) (e : CallFault Refusal)
    → ((r : Refusal) → f ≡ Some r → query_fault tables query ≡ Some r)
    → IsTested {A = Unit {0}} f (Err e) → IsQueryChecked tables query (Err e)
stop_checked tables query f (Refused r) decides h = decides r h
stop_checked tables query f NoMemory decides h = tt

pub stop_accepted : (tables : Tables) (query : PlainQuery) (f : Fault) (e : CallFault Refusal)
    → ((r : Refusal) → f ≡ Some r → query_fault tables query ≡ Some r)
    → IsTested {A = Unit {0}} f (Err e) → query_fault tables query ≡ None
    → IsOkUnless {T = Query} (Err e) NoMemory
stop_accepted tables query f (Refused r) decides h none =
    both_ways (query_fault tables query) r none (decides r h)
stop_accepted tables query f NoMemory decides h none = refl

pub stop_refused : (tables : Tables) (query : PlainQuery) (f : Fault) (e : CallFault Refusal)
    → ((r : Refusal) → f ≡ Some r → query_fault tables query ≡ Some r)
    → IsTested {A = Unit {0}} f (Err e) → (r : Refusal) → query_fault tables query ≡ Some r
    → IsErrOf {T = Query} (Err e) (Refused r) ⊎ IsErrOf {T = Query} (Err e) NoMemory
stop_refused tables query f (Refused q) decides h r k =
    inl (ap (λ (x : Refusal). Err (Refused x)) (same_some q r (sym (decides q h) ∙ k)))
stop_refused tables query f NoMemory decides h r k = inr refl

-- ---- the query with its references made ones to atoms

pub still_few_branches : (tables : Tables) (xs : List Branch) (branches : List PlainBranch)
    → branches_of xs ≡ branches_with_atoms tables branches → length branches ≤ 16 → length xs ≤ 16
still_few_branches tables xs branches same few =
    let p = length-map xs branch_of in
    let q = length-map branches (branch_with_atoms tables) in
    let k = ap length same in
    omega (arith, p, q, k, few)

pub still_query : (tables : Tables) (branches : List PlainBranch) (when : When) (keep : List Keep)
    → IsQuery branches when keep → IsQuery (branches_with_atoms tables branches) when keep
still_query tables branches when keep h =
    let p = length-map branches (branch_with_atoms tables) in
    let some = h.some in
    record {
      some = omega (arith, p, some);
      parts = still_parts tables branches ∙ h.parts;
      moments = h.moments;
      bounds = h.bounds;
    }
