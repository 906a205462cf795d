-- Which of the tests of two paired queries decides.
use Rattle.std.specs.Prelude.{◌≡◌, ℕ, ◌+◌, List, [], ◌∷◌, map, min, None, Some}
use Rattle.std.specs.Option.{option_map}
use Rattle.std.proofs.Common.{refl, ◌∙◌, arith}
use Rattle.prima_base.specs.declared.refusal.Refusal.{Refusal}
use Rattle.smo_ops_spec.specs.First.{first_refusal}
use Rattle.smo_ops_spec.specs.Checks.{Fault}
use Rattle.smo_ops_spec.specs.Past.{Past}
use Rattle.smo_ops_spec.proofs.Firsts.{first_after, first_before}
use Rattle.temporal_lang_types.specs.Queries.{PlainQuery}
use Rattle.temporal_lang_spec.specs.Accepted.{tests_of_query, fault_of_query}
use Rattle.temporal_lang_spec.specs.PairFaults.{branches_nodes, replaced, behind, fault_of_pairs}

first_mapped : (f : Refusal → Refusal) (tests : List Fault)
    → first_refusal (map (option_map f) tests) ≡ option_map f (first_refusal tests)
first_mapped f [] = refl
first_mapped f (None ∷ tests) = first_mapped f tests
first_mapped f (Some r ∷ tests) = refl

module _ (past : Past) (left right : PlainQuery) where
  -- what is wrong with the query on the left comes first
  pub left_decides : (r : Refusal) → fault_of_query past left ≡ Some r
      → fault_of_pairs past left right ≡ Some r
  left_decides r h = first_before (tests_of_query past left)
      (map (option_map (behind (branches_nodes left.branches))) (tests_of_query past right)) r h

  -- where nothing is, what is wrong is what is wrong with the one on the right
  pub right_decides : fault_of_query past left ≡ None
      → fault_of_pairs past left right
      ≡ option_map (behind (branches_nodes left.branches)) (fault_of_query past right)
  right_decides h = first_after (tests_of_query past left)
      (map (option_map (behind (branches_nodes left.branches))) (tests_of_query past right)) h
      ∙ first_mapped (behind (branches_nodes left.branches)) (tests_of_query past right)

-- a count of 64 bits serves
most_places : (n place : ℕ) → min (min n 18446744073709551615 + place) 4294967295
    ≡ min (n + place) 4294967295
most_places n place = omega arith

pub behind_most : (n : ℕ) (refusal : Refusal)
    → behind (min n 18446744073709551615) refusal ≡ behind n refusal
behind_most n refusal = λ i. replaced (λ place. most_places n place i) refusal
