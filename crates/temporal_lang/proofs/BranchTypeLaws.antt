-- Types of branches one after the other, and then their outputs beside the first's.
use Rattle.std.specs.Prelude.{◌≡◌, ℕ, ◌+◌, ◌<◌, List, ◌∷◌, map, length, Some, None, Err}
use Rattle.std.proofs.Common.{sym, ap, subst, ◌∙◌, get_or, drop}
use Rattle.prima_base.specs.declared.refusal.Refusal.{Refusal}
use Rattle.schema_catalog.specs.Tables.{Tables}
use Rattle.cond_expr.specs.Kinds.{Kinds}
use Rattle.cond_expr.specs.Faults.{first_unknown}
use Rattle.smo_ops_spec.specs.First.{first_refusal}
use Rattle.smo_ops_spec.proofs.Firsts.{first_after, first_before, drop_at}
use Rattle.temporal_lang_types.specs.declared.branch.Branch.{Branch}
use Rattle.prima_base.specs.declared.fault.CallFault.{CallFault}
use Rattle.prima_base.specs.declared.fault.CallFault.TheVariants.{Refused, NoMemory}
use Rattle.plain_answers_spec.specs.Branches.{PlainBranch}
use Rattle.temporal_lang_types.specs.Branches.{branch_of, branches_of}
use Rattle.temporal_lang_spec.specs.Atoms.{atom_kinds}
use Rattle.prima_base.specs.Faults.{IsTested}
use Rattle.temporal_lang_spec.specs.Checking.{branch_types, branch_nodes, branch_references}
use Rattle.temporal_lang_spec.specs.Checking.{types_from}
use Rattle.temporal_lang_spec.specs.Checking.{typing_tests, arities, output_kinds}
use Rattle.temporal_lang_spec.specs.Resolved.{IsSmall, AllSmall, AllKnown, HaveFew}
use Rattle.temporal_lang.specs.Typings.{BranchTyped, BranchesTyped}

module _ (tables : Tables) (xs : List Branch) (i : ℕ) (x : Branch) (below : i < length xs)
    (is : x ≡ get_or xs i x) where
  branches_here : branches_of (drop i xs) ≡ branch_of x ∷ branches_of (drop (i + 1) xs)
  branches_here = ap branches_of (drop_at xs i x below is)

  pub small_at : AllSmall (branches_of (drop i xs)) → IsSmall (branch_of x)
      × AllSmall (branches_of (drop (i + 1) xs))
  small_at h = subst AllSmall branches_here h

  pub few_after : HaveFew (branches_of (drop i xs)) → HaveFew (branches_of (drop (i + 1) xs))
  few_after h = (let all : HaveFew (branch_of x ∷ branches_of (drop (i + 1) xs)) =
      subst HaveFew branches_here h in all.1)

  pub known_at : AllKnown tables (branches_of (drop i xs))
      → (first_unknown (atom_kinds tables x.from.items) (branch_references (branch_of x)) ≡ None)
      × AllKnown tables (branches_of (drop (i + 1) xs))
  known_at h = subst (λ bs. AllKnown tables bs) branches_here h

  pub types_stop : (at : ℕ) (r : Refusal) → first_refusal
      (branch_types (atom_kinds tables x.from.items) at (branch_of x)) ≡ Some r
      → first_refusal (types_from tables at (branches_of (drop i xs))) ≡ Some r
  types_stop at r h = ap (λ bs. first_refusal (types_from tables at bs)) branches_here
      ∙ first_before (branch_types (atom_kinds tables x.from.items) at (branch_of x))
      (types_from tables (at + branch_nodes (branch_of x)) (branches_of (drop (i + 1) xs))) r h

  pub types_more : (at next : ℕ) → first_refusal
      (branch_types (atom_kinds tables x.from.items) at (branch_of x)) ≡ None
      → next ≡ at + branch_nodes (branch_of x)
      → first_refusal (types_from tables at (branches_of (drop i xs)))
      ≡ first_refusal (types_from tables next (branches_of (drop (i + 1) xs)))
  types_more at next h same = ap (λ bs. first_refusal (types_from tables at bs)) branches_here
      ∙ first_after (branch_types (atom_kinds tables x.from.items) at (branch_of x))
      (types_from tables (at + branch_nodes (branch_of x)) (branches_of (drop (i + 1) xs))) h
      ∙ ap (λ n. first_refusal (types_from tables n (branches_of (drop (i + 1) xs)))) (sym same)

-- what one branch is refused for, all are
pub branches_stop : (tables : Tables) (branches : List PlainBranch) (of : Kinds) (at : ℕ)
    (b : PlainBranch) (e : CallFault Refusal)
    → ((r : Refusal) → first_refusal (branch_types of at b) ≡ Some r
    → first_refusal (types_from tables 0 branches) ≡ Some r)
    → BranchTyped of at b (Err e) → BranchesTyped tables branches (Err e)
branches_stop tables branches of at b (Refused r) h k = h r k
branches_stop tables branches of at b NoMemory h k = tt

-- types before arities
pub typing_stop : (tables : Tables) (branches : List PlainBranch) (e : CallFault Refusal)
    → BranchesTyped tables branches (Err e)
    → IsTested {A = Unit {0}} (first_refusal (typing_tests tables branches)) (Err e)
typing_stop tables branches (Refused r) h = first_before (types_from tables 0 branches)
    (arities (map (output_kinds tables) branches)) r h
typing_stop tables branches NoMemory h = tt
