-- Types of outputs one after the other, and of a branch.
use Rattle.std.specs.Prelude.{◌≡◌, ℕ, ◌+◌, ◌*◌, ◌<◌, ◌≤◌, List, [], ◌∷◌, ◌++◌, map, length, Option}
use Rattle.std.specs.Prelude.{Some, None, Err}
use Rattle.std.proofs.Common.{refl, sym, ap, subst, ◌∙◌, get_or, drop, append_assoc, arith}
use Rattle.std.specs.List.{flat_map}
use Rattle.std.specs.Option.{option_or, option_map}
use Rattle.prima_base.specs.declared.refusal.Refusal.TheVariants.{WrongType}
use Rattle.cond_expr.specs.declared.expr.ColRef.{ColRef}
use Rattle.cond_expr.specs.declared.expr.Expr.{Expr}
use Rattle.cond_expr.specs.Trees.{Tree}
use Rattle.cond_expr.specs.Seen.{tree}
use Rattle.cond_expr.specs.Sizes.{nodes_of}
use Rattle.cond_expr.specs.Kinds.{Kinds}
use Rattle.cond_expr.specs.Faults.{references, untyped, test_untyped, first_of, first_unknown}
use Rattle.cond_expr.proofs.FaultLaws.{unknown_append}
use Rattle.smo_ops_spec.specs.First.{first_refusal}
use Rattle.smo_ops_spec.proofs.Firsts.{first_after, first_before, first_at, first_later}
use Rattle.smo_ops_spec.proofs.Firsts.{first_alone}
use Rattle.smo_ops_spec.proofs.Firsts.{drop_at}
use Rattle.prima_base.specs.declared.refusal.Refusal.{Refusal}
use Rattle.prima_base.specs.declared.fault.CallFault.{CallFault}
use Rattle.prima_base.specs.declared.fault.CallFault.TheVariants.{Refused, NoMemory}
use Rattle.plain_answers_spec.specs.Branches.{PlainBranch}
use Rattle.temporal_lang_spec.specs.Checking.{trees_types, outputs_nodes, branch_types}
use Rattle.temporal_lang_spec.specs.Checking.{branch_nodes}
use Rattle.temporal_lang_spec.specs.Resolved.{AreSmall, IsSmall}
use Rattle.temporal_lang.specs.Typings.{OutputsTyped, BranchTyped}
use Rattle.temporal_lang_spec.proofs.FillLaws.{map_both}

-- ---- references

earlier_none : (a b : Option (List ℕ)) → option_or a b ≡ None → (a ≡ None) × (b ≡ None)
earlier_none None b h = (refl, h)
earlier_none (Some n) b h = absurd (cc)

-- where all references are known, those of each part are
pub known_both : (of : Kinds) (a b : List ColRef) → first_unknown of (a ++ b) ≡ None
    → (first_unknown of a ≡ None) × (first_unknown of b ≡ None)
known_both of a b h = earlier_none (first_unknown of a) (first_unknown of b)
    (sym (unknown_append of a b) ∙ h)

-- ---- places

pub wrong_place : (at : ℕ) (first : Option ℕ) (place : ℕ)
    → option_map (λ p. at + p) first ≡ Some place
    → option_map (λ p. WrongType (at + p)) first ≡ Some (WrongType place)
wrong_place at None place h = absurd (cc)
wrong_place at (Some p) place h = ap (λ (o : Option ℕ). option_map WrongType o) h

pub right_place : (at : ℕ) (first : Option ℕ) → first ≡ None
    → option_map (λ p. WrongType (at + p)) first ≡ None
right_place at None h = refl
right_place at (Some p) h = absurd (cc)

-- ---- lists that grow by what is made of each member

pub mapped_more : {A B C D : Type 0} (f : B → C) (h : A → B) (g : D → C) (xs : List A) (i : ℕ)
    (x : A) → i < length xs → x ≡ get_or xs i x
    → (done : List D) (new : D) (all : List D) (whole : List C) → f (h x) ≡ g new
    → all ≡ done ++ new ∷ [] → map g done ++ map f (map h (drop i xs)) ≡ whole
    → map g all ++ map f (map h (drop (i + 1) xs)) ≡ whole
mapped_more f h g xs i x below is done new all whole same is_all before =
    let rest = map f (map h (drop (i + 1) xs)) in
    ap (λ ds. map g ds ++ rest) is_all
    ∙ ap (λ cs. cs ++ rest) (map_both g done (new ∷ []))
    ∙ append_assoc (map g done) (g new ∷ []) rest
    ∙ ap (λ c. map g done ++ c ∷ rest) (sym same)
    ∙ ap (λ ys. map g done ++ map f (map h ys)) (sym (drop_at xs i x below is))
    ∙ before

-- ---- the outputs from a place on

module _ (of : Kinds) (xs : List Expr) (i : ℕ) (x : Expr) (below : i < length xs)
    (is : x ≡ get_or xs i x) where
  pub outputs_here : map tree (drop i xs) ≡ tree x ∷ map tree (drop (i + 1) xs)
  outputs_here = ap (map tree) (drop_at xs i x below is)

  pub outputs_stop : (at place : ℕ) → option_map (λ p. at + p) (first_of (untyped of 0 (tree x)))
      ≡ Some place → first_refusal (trees_types of at (map tree (drop i xs)))
      ≡ Some (WrongType place)
  outputs_stop at place h = ap (λ ts. first_refusal (trees_types of at ts)) outputs_here
      ∙ first_at (option_map (λ p. WrongType (at + p)) (first_of (untyped of 0 (tree x))))
      (trees_types of (at + nodes_of (tree x)) (map tree (drop (i + 1) xs))) (WrongType place)
      (wrong_place at (first_of (untyped of 0 (tree x))) place h)

  pub outputs_more : (at n : ℕ) → n ≡ nodes_of (tree x) → first_of (untyped of 0 (tree x)) ≡ None
      → first_refusal (trees_types of at (map tree (drop i xs)))
      ≡ first_refusal (trees_types of (at + n) (map tree (drop (i + 1) xs)))
  outputs_more at n same h = ap (λ ts. first_refusal (trees_types of at ts)) outputs_here
      ∙ first_later (option_map (λ p. WrongType (at + p)) (first_of (untyped of 0 (tree x))))
      (trees_types of (at + nodes_of (tree x)) (map tree (drop (i + 1) xs)))
      (right_place at (first_of (untyped of 0 (tree x))) h)
      ∙ ap (λ k. first_refusal (trees_types of (at + k) (map tree (drop (i + 1) xs)))) (sym same)

  pub nodes_here : outputs_nodes (map tree (drop i xs))
      ≡ nodes_of (tree x) + outputs_nodes (map tree (drop (i + 1) xs))
  nodes_here = ap outputs_nodes outputs_here

  pub small_here : AreSmall (map tree (drop i xs)) → (nodes_of (tree x) ≤ 256)
      × AreSmall (map tree (drop (i + 1) xs))
  small_here h = subst AreSmall outputs_here h

  pub known_here : first_unknown of (flat_map references (map tree (drop i xs))) ≡ None
      → (first_unknown of (references (tree x)) ≡ None)
      × (first_unknown of (flat_map references (map tree (drop (i + 1) xs))) ≡ None)
  known_here h = known_both of (references (tree x))
      (flat_map references (map tree (drop (i + 1) xs)))
      (ap (λ ts. first_unknown of (flat_map references ts)) (sym outputs_here) ∙ h)

-- ---- a branch: its outputs, and then its condition

module _ (of : Kinds) (at : ℕ) (b : PlainBranch) where
  pub branch_stop : (e : CallFault Refusal) → OutputsTyped of at b.outs (Err e)
      → BranchTyped of at b (Err e)
  branch_stop (Refused r) h = first_before (trees_types of at b.outs)
      (option_map (λ p. WrongType (at + outputs_nodes b.outs + p))
      (first_of (test_untyped of 0 b.cond)) ∷ []) r h
  branch_stop NoMemory h = tt

  after_outputs : first_refusal (trees_types of at b.outs) ≡ None
      → first_refusal (branch_types of at b) ≡ option_map
      (λ p. WrongType (at + outputs_nodes b.outs + p)) (first_of (test_untyped of 0 b.cond))
  after_outputs h = first_after (trees_types of at b.outs)
      (option_map (λ p. WrongType (at + outputs_nodes b.outs + p))
      (first_of (test_untyped of 0 b.cond)) ∷ []) h
      ∙ first_alone (option_map (λ p. WrongType (at + outputs_nodes b.outs + p))
      (first_of (test_untyped of 0 b.cond)))

  pub branch_fine : first_refusal (trees_types of at b.outs) ≡ None
      → first_of (test_untyped of 0 b.cond) ≡ None → first_refusal (branch_types of at b) ≡ None
  branch_fine h k = after_outputs h ∙ right_place (at + outputs_nodes b.outs)
      (first_of (test_untyped of 0 b.cond)) k

  pub branch_wrong : (n place : ℕ) → first_refusal (trees_types of at b.outs) ≡ None
      → n ≡ at + outputs_nodes b.outs
      → option_map (λ p. n + p) (first_of (test_untyped of 0 b.cond)) ≡ Some place
      → first_refusal (branch_types of at b) ≡ Some (WrongType place)
  branch_wrong n place h same k = after_outputs h
      ∙ wrong_place (at + outputs_nodes b.outs) (first_of (test_untyped of 0 b.cond)) place
      (subst (λ m. option_map (λ p. m + p) (first_of (test_untyped of 0 b.cond)) ≡ Some place)
      same k)

-- ---- how many nodes there can be

outputs_few : (ts : List Tree) → AreSmall ts → outputs_nodes ts ≤ 256 * length ts
outputs_few [] h = omega arith
outputs_few (t ∷ ts) h = (let one = h.0 in let more = outputs_few ts h.1 in
    omega (arith, one, more))

pub branch_few : (b : PlainBranch) → IsSmall b → branch_nodes b ≤ 8448
branch_few b h = (let outs = outputs_few b.outs h.outs in let few = h.few in let cond = h.cond in
    omega (arith, outs, few, cond))
