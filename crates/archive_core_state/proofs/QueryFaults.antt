-- The first refusal of a query, test by test.
use Rattle.std.proofs.Common.{◌≡◌, ◌≤◌, ℕ, true, List, [], ◌∷◌, ◌++◌, length, sym, ap, subst}
use Rattle.std.proofs.Common.{◌∙◌, arith}
use Rattle.std.specs.Prelude.{nat_le, Option, Some, None, Result, Ok, Err, IfOk, MatchResult}
use Rattle.std.proofs.lemmas.List.{length-map}
use Rattle.std.proofs.lemmas.Bool.Decides.{nat_tests}
use Rattle.prima_base.specs.Keeping.{kept}
use Rattle.prima_base.specs.declared.fault.CallFault.{CallFault}
use Rattle.prima_base.specs.declared.fault.CallFault.TheVariants.{Refused, NoMemory}
use Rattle.prima_base.specs.declared.refusal.Refusal.{Refusal}
use Rattle.prima_base.specs.declared.refusal.Refusal.TheVariants.{NoVersion}
use Rattle.smo_ops_types.specs.Commands.{PlainVersion, version_of}
use Rattle.version_groups.specs.Groups.{Kept, versions_in}
use Rattle.version_groups.specs.Representation.{Represents}
use Rattle.schema_catalog.specs.Tables.{Tables}
use Rattle.smo_ops_spec.specs.Checks.{Fault}
use Rattle.smo_ops_spec.specs.First.{unless, first_refusal}
use Rattle.smo_ops_spec.specs.Losses.{Loss}
use Rattle.smo_ops_spec.specs.Past.{Past, tables_of}
use Rattle.smo_ops_spec.proofs.Firsts.{first_after, first_before, first_later, first_alone}
use Rattle.temporal_lang_types.specs.Queries.{PlainQuery, query_of, IsLasting}
use Rattle.temporal_lang_types.specs.declared.query.Query.{Query}
use Rattle.temporal_lang_spec.specs.Atoms.{with_atoms}
use Rattle.temporal_lang_spec.specs.Accepted.{no_way_back, loss_fault, version_fault}
use Rattle.temporal_lang_spec.specs.Accepted.{fault_of_query}
use Rattle.temporal_lang_spec.specs.Losing.{first_lost}
use Rattle.temporal_lang_spec.proofs.WayBackLaws.{no_way_back_is}
use Rattle.answer_text.specs.declared.listing.Listing.{Listing}
use Rattle.archive_core_state.specs.Asking.{IsAsked, IsAskedSchema, IsChecked, IsWrong}
use Rattle.archive_core_state.specs.Asking.{TellsWayBack}
use Rattle.temporal_lang_spec.specs.Checking.{excess_of, excess_fault, query_tests, query_fault}
use Rattle.temporal_lang_spec.specs.Checking.{IsQueryChecked}

module _ (past : Past) (query : PlainQuery) (few : excess_of query ≡ None)
    (there : query.version ≤ length past.versions) where
  abbrev tests : List Fault
  tests = query_tests (tables_of past query.version) query

  abbrev loss : Fault
  loss = loss_fault past.versions (first_lost past query)

  version_met : version_fault past query.version ≡ None
  version_met =
      let met : nat_le query.version (length past.versions) ≡ true = grind (arith, nat_tests) in
      ap (λ b. unless b (NoVersion query.version (length past.versions))) met

  after_version : fault_of_query past query ≡ first_refusal (tests ++ loss ∷ [])
  after_version =
      first_later (excess_fault (excess_of query))
      (version_fault past query.version ∷ (tests ++ loss ∷ [])) (ap excess_fault few)
      ∙ first_later (version_fault past query.version) (tests ++ loss ∷ []) version_met

  -- the tests over its version's tables
  pub test_fails : (r : Refusal) → query_fault (tables_of past query.version) query ≡ Some r
      → fault_of_query past query ≡ Some r
  test_fails r e = after_version ∙ first_before tests (loss ∷ []) r
      (sym (first_later (excess_fault (excess_of query)) tests (ap excess_fault few)) ∙ e)

  pub tests_met : query_fault (tables_of past query.version) query ≡ None
      → first_refusal tests ≡ None
  tests_met e = sym (first_later (excess_fault (excess_of query)) tests (ap excess_fault few)) ∙ e

  -- and last its first loss
  pub loss_decides : first_refusal tests ≡ None → fault_of_query past query ≡ loss
  loss_decides e = after_version ∙ first_after tests (loss ∷ []) e ∙ first_alone loss

  pub none_lost : (l : Option Loss) → l ≡ first_lost past query → l ≡ None
      → first_refusal tests ≡ None → fault_of_query past query ≡ None
  none_lost l e n t = loss_decides t ∙ ap (loss_fault past.versions) (sym e ∙ n)

  pub one_lost : (l : Option Loss) (at : Loss) (r : Refusal) → l ≡ first_lost past query
      → l ≡ Some at → r ≡ no_way_back past.versions at → first_refusal tests ≡ None
      → fault_of_query past query ≡ Some r
  one_lost l at r e n is t = loss_decides t ∙ ap (loss_fault past.versions) (sym e ∙ n)
      ∙ ap Some (sym is)

-- what is checked over the tables of its version
pub checked_over : (past : Past) (query : PlainQuery) (tables : Tables)
    → IsAskedSchema past query tables → (result : Result Query (CallFault Refusal))
    → IsQueryChecked tables query result
    → IfOk result (λ q. IsLasting q.when) → MatchResult result
    (λ checked. IsChecked past query checked) (λ fault. IsWrong past query fault)
checked_over past query tables h (Ok q) is lasts =
    let atoms : query_of q ≡ with_atoms (tables_of past query.version) query = is.1
    ∙ ap (λ (t : Tables). with_atoms t query) h.schema in
    record {
      few = h.few;
      there = h.there;
      tests = tests_met past query h.few h.there
          (ap (λ (t : Tables). query_fault t query) (sym h.schema) ∙ is.0);
      atoms = atoms;
      lasting = subst (λ (p : PlainQuery). IsLasting p.when) atoms lasts;
    }
checked_over past query tables h (Err (Refused r)) is lasts =
    test_fails past query h.few h.there r (ap (λ (t : Tables). query_fault t query) (sym h.schema)
    ∙ is)
checked_over past query tables h (Err NoMemory) is lasts = tt

pub checked_there : (past : Past) (query : PlainQuery) (checked : Query)
    → IsChecked past query checked → checked.version ≤ length past.versions
checked_there past query checked h = subst (λ (n : ℕ). n ≤ length past.versions)
    (sym (ap (λ (q : PlainQuery). q.version) h.atoms)) h.there

pub checked_lasting : (past : Past) (query : PlainQuery) (checked : Query)
    → IsChecked past query checked → IsLasting checked.when
checked_lasting past query checked h = subst (λ (q : PlainQuery). IsLasting q.when)
    (sym h.atoms) h.lasting

pub within_kept : (kept : Kept) (past : Past) (n : ℕ) → Represents kept past
    → n ≤ length past.versions → n ≤ length kept.versions
within_kept kept past n represents l =
    let same : length (versions_in kept) ≡ length past.versions =
    ap (λ (vs : List PlainVersion). length vs) represents.versions in
    let many = length-map kept.versions version_of in
    omega arith

-- a refusal for want of a way back has its cause
pub way_back_told : (past : Past) (query : PlainQuery) (result : Result Listing (CallFault Refusal))
    → IsAsked past query result → TellsWayBack past query result
way_back_told past query result asked = λ k kind e.
    no_way_back_is past query k kind (subst (IsAsked past query) e asked)
