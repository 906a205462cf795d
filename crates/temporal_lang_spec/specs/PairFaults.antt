-- What is wrong with a PAIRS: all that is wrong with the query on the left comes before what is
-- wrong with the one on the right.
use Rattle.std.specs.Prelude.{ℕ, ◌+◌, List, [], ◌∷◌, ◌++◌, map, min}
use Rattle.std.specs.Option.{option_map}
use Rattle.prima_base.specs.declared.refusal.Refusal.{Refusal}
use Rattle.prima_base.specs.declared.refusal.Refusal.TheVariants.{WrongType}
use Rattle.smo_ops_spec.specs.First.{first_refusal}
use Rattle.smo_ops_spec.specs.Checks.{Fault}
use Rattle.smo_ops_spec.specs.Past.{Past}
use Rattle.plain_answers_spec.specs.Branches.{PlainBranch}
use Rattle.temporal_lang_types.specs.Queries.{PlainQuery}
use Rattle.temporal_lang_spec.specs.Checking.{branch_nodes}
use Rattle.temporal_lang_spec.specs.Accepted.{tests_of_query}

-- how many nodes branches have
abbrev pub branches_nodes : List PlainBranch → ℕ
branches_nodes [] = 0
branches_nodes (b ∷ branches) = branch_nodes b + branches_nodes branches

-- the refusal with another place of its node, where it tells of one
abbrev pub replaced : (ℕ → ℕ) → Refusal → Refusal
replaced f (WrongType place) = WrongType (f place)
replaced f refusal = refusal

-- a refusal of what stands behind so many nodes of its statement: the place of a node counts them.
-- A place has 32 bits; the few nodes of two queries lie far below.
abbrev pub behind : ℕ → Refusal → Refusal
behind n refusal = replaced (λ place. min (n + place) 4294967295) refusal

abbrev pub tests_of_pairs : Past → PlainQuery → PlainQuery → List Fault
tests_of_pairs past left right = tests_of_query past left
    ++ map (option_map (behind (branches_nodes left.branches))) (tests_of_query past right)

abbrev pub fault_of_pairs : Past → PlainQuery → PlainQuery → Fault
fault_of_pairs past left right = first_refusal (tests_of_pairs past left right)
