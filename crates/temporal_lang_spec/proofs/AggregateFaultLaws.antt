-- Which of the tests of an aggregate decides.
use Rattle.std.specs.Prelude.{◌≡◌, ℕ, List, [], ◌∷◌, None, Some}
use Rattle.std.proofs.Common.{sym, ◌∙◌}
use Rattle.prima_base.specs.declared.refusal.Refusal.{Refusal}
use Rattle.smo_ops_spec.specs.First.{first_refusal}
use Rattle.smo_ops_spec.specs.Past.{Past, tables_of}
use Rattle.smo_ops_spec.proofs.Firsts.{first_after, first_before, none_of_both}
use Rattle.temporal_lang_types.specs.declared.agg_item.AggItem.{AggItem}
use Rattle.temporal_lang_types.specs.Queries.{PlainQuery}
use Rattle.temporal_lang_spec.specs.Checking.{excess_of, excess_fault, query_tests}
use Rattle.temporal_lang_spec.specs.Accepted.{version_fault, loss_fault, fault_of_query}
use Rattle.temporal_lang_spec.specs.Losing.{first_lost}
use Rattle.temporal_lang_spec.specs.AggregateFaults.{aggregate_checks, aggregate_tests_over}
use Rattle.temporal_lang_spec.specs.AggregateFaults.{fault_of_aggregate}

module _ (past : Past) (items : List AggItem) (group : ℕ) (query : PlainQuery) where
  -- all but that for a loss come first
  pub checks_decide : (r : Refusal) → first_refusal (aggregate_checks past items group query)
      ≡ Some r → fault_of_aggregate past items group query ≡ Some r
  checks_decide r h = first_before (aggregate_checks past items group query)
      (loss_fault past.versions (first_lost past query) ∷ []) r h

  -- where these are met, what is wrong is what is wrong with the query
  pub query_decides : first_refusal (aggregate_checks past items group query) ≡ None
      → fault_of_aggregate past items group query ≡ fault_of_query past query
  query_decides h =
      let loss = loss_fault past.versions (first_lost past query) ∷ [] in
      let first = excess_fault (excess_of query) ∷ version_fault past query.version
      ∷ query_tests (tables_of past query.version) query in
      let met = none_of_both first
      (aggregate_tests_over (tables_of past query.version) items group query) h in
      first_after (aggregate_checks past items group query) loss h
      ∙ sym (first_after first loss met.0)
