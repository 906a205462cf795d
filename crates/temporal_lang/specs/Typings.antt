-- What typing the trees of a query answers.
use Rattle.std.specs.Prelude.{◌≡◌, ℕ, ◌+◌, List, Option, Some, None, Result, Ok, Err, map}
use Rattle.std.specs.Option.{option_map}
use Rattle.prima_base.specs.declared.value.ColType.{ColType}
use Rattle.std.specs.declared.vec.Vec.{Vec}
use Rattle.std.specs.declared.alloc.Global.{Global}
use Rattle.schema_catalog.specs.Tables.{Tables}
use Rattle.cond_expr.specs.Trees.{Tree, Test}
use Rattle.cond_expr.specs.Sizes.{nodes_of, test_nodes}
use Rattle.cond_expr.specs.Kinds.{Kinds, kind_of}
use Rattle.cond_expr.specs.Faults.{untyped, test_untyped, first_of}
use Rattle.cond_expr.specs.declared.expr_type.TypedExpr.{TypedExpr}
use Rattle.smo_ops_spec.specs.First.{first_refusal}
use Rattle.prima_base.specs.declared.refusal.Refusal.{Refusal}
use Rattle.prima_base.specs.declared.fault.CallFault.{CallFault}
use Rattle.prima_base.specs.Faults.{IsTestedAs}
use Rattle.temporal_lang.specs.declared.type_check.Typed.{Typed}
use Rattle.plain_answers_spec.specs.Branches.{PlainBranch}
use Rattle.temporal_lang_spec.specs.Checking.{trees_types, outputs_nodes, branch_types}
use Rattle.temporal_lang_spec.specs.Checking.{branch_nodes}
use Rattle.temporal_lang_spec.specs.Checking.{types_from, output_kinds}

-- the type and the number of nodes, where no node is ill-typed; else the place of the first that
-- is, the root being node `at`
abbrev pub IsTyped : Kinds → ℕ → Tree → Result TypedExpr ℕ → Type 0
IsTyped of at t (Ok typed) = (kind_of of t ≡ Some typed.kind) × (typed.nodes ≡ nodes_of t)
    × (first_of (untyped of 0 t) ≡ None)
IsTyped of at t (Err place) = option_map (λ p. at + p) (first_of (untyped of 0 t)) ≡ Some place

abbrev pub IsTypedTest : Kinds → ℕ → Test → Result ℕ ℕ → Type 0
IsTypedTest of at c (Ok nodes) = (nodes ≡ test_nodes c) × (first_of (test_untyped of 0 c) ≡ None)
IsTypedTest of at c (Err place) = option_map (λ p. at + p) (first_of (test_untyped of 0 c))
    ≡ Some place

-- these are the types of the outputs, and the number of the node after them
abbrev pub HasTypes : Kinds → List Tree → ℕ → Typed → Type 0
HasTypes of ts next typed = (map Some typed.kinds.items ≡ map (kind_of of) ts) × (typed.next ≡ next)

abbrev pub OutputsTyped : Kinds → ℕ → List Tree → Result Typed (CallFault Refusal) → Type 0
OutputsTyped of at ts answer = IsTestedAs (HasTypes of ts (at + outputs_nodes ts))
    (first_refusal (trees_types of at ts)) answer

abbrev pub BranchTyped : Kinds → ℕ → PlainBranch → Result Typed (CallFault Refusal) → Type 0
BranchTyped of at b answer = IsTestedAs (HasTypes of b.outs (at + branch_nodes b))
    (first_refusal (branch_types of at b)) answer

-- the types of each branch's outputs
abbrev pub kind_lists : List (Vec ColType Global) → List (List (Option ColType))
kind_lists kinds = map (λ (v : Vec ColType Global). map Some v.items) kinds

abbrev pub BranchesTyped : Tables → List PlainBranch
    → Result (Vec (Vec ColType Global) Global) (CallFault Refusal) → Type 0
BranchesTyped tables branches answer =
    IsTestedAs (λ kinds. kind_lists kinds.items ≡ map (output_kinds tables) branches)
    (first_refusal (types_from tables 0 branches)) answer
