-- The tests of named columns and of values, from a place on.
use Rattle.std.proofs.Common.{subst, append_assoc, ◌≡◌, ◌<◌, ◌≤◌, ◌+◌, ℕ, true, false, List, []}
use Rattle.std.proofs.Common.{◌∷◌, ◌++◌, length, take, drop, get_or, refl, sym, ap, ◌∙◌}
use Rattle.std.specs.Prelude.{Option, Some, None}
use Rattle.std.specs.Option.{option_map, option_or}
use Rattle.std.proofs.lemmas.List.{take_more}
use Rattle.prima_base.specs.declared.refusal.Refusal.TheVariants.{NoColumn, ColumnExists}
use Rattle.prima_base.specs.Columns.{Column, names_of}
use Rattle.smo_ops_spec.specs.First.{unless, where_so, first_refusal}
use Rattle.smo_ops_spec.specs.Preconditions.{among}
use Rattle.smo_ops_spec.specs.Checks.{pair_names, names_after}
use Rattle.prima_base.specs.declared.refusal.Refusal.{Refusal}
use Rattle.cond_expr.specs.declared.expr.Expr.{Expr}
use Rattle.cond_expr.specs.declared.expr.ColRef.{ColRef}
use Rattle.cond_expr.specs.Seen.{tree}
use Rattle.cond_expr.specs.Sizes.{nodes_of}
use Rattle.cond_expr.specs.Faults.{references, first_unknown}
use Rattle.cond_expr.proofs.FaultLaws.{unknown_append}
use Rattle.smo_ops_types.specs.Changes.{sets_of}
use Rattle.smo_ops_spec.specs.OneRow.{own_kinds}
use Rattle.smo_ops_spec.specs.Checks.{AreSmall, reference_fault, set_references, set_tests}
use Rattle.smo_ops_spec.specs.Checks.{set_faults, sets_nodes}
use Rattle.smo_ops_spec.proofs.Firsts.{drop_at, none_mapped, first_before, first_after}

pub pair_names_of : (columns : List Column) → pair_names columns ≡ names_of columns
pair_names_of [] = refl
pair_names_of (c ∷ columns) = ap (λ (names : List (List ℕ)). c.0 ∷ names) (pair_names_of columns)

pair_names_append : {X : Type 0} (a b : List (List ℕ × X))
    → pair_names (a ++ b) ≡ pair_names a ++ pair_names b
pair_names_append [] b = refl
pair_names_append (p ∷ a) b = ap (λ (names : List (List ℕ)). p.0 ∷ names) (pair_names_append a b)

module _ {X : Type 0} (t : List ℕ) (columns : List Column) (pairs : List (List ℕ × X)) (i : ℕ)
    (p : List ℕ × X) (below : i < length pairs) (is : p ≡ get_or pairs i p) where
  one_more : pair_names (take (i + 1) pairs) ≡ pair_names (take i pairs) ++ p.0 ∷ []
  one_more = ap pair_names (take_more pairs i p below ∙ ap (λ q. take i pairs ++ q ∷ []) (sym is))
      ∙ pair_names_append (take i pairs) (p ∷ [])

  here : names_after t columns (pair_names (take i pairs)) (pair_names (drop i pairs))
      ≡ where_so (among p.0 (pair_names (take i pairs))) (ColumnExists t p.0)
      ∷ unless (among p.0 (names_of columns)) (NoColumn p.0)
      ∷ names_after t columns (pair_names (take (i + 1) pairs)) (pair_names (drop (i + 1) pairs))
  here = ap (λ rest. names_after t columns (pair_names (take i pairs)) (pair_names rest))
      (drop_at pairs i p below is)
      ∙ ap (λ names. where_so (among p.0 (pair_names (take i pairs))) (ColumnExists t p.0)
      ∷ unless (among p.0 (names_of columns)) (NoColumn p.0)
      ∷ names_after t columns names (pair_names (drop (i + 1) pairs))) (sym one_more)

  pub name_fine : among p.0 (pair_names (take i pairs)) ≡ false
      → among p.0 (pair_names columns) ≡ true
      → first_refusal (names_after t columns (pair_names (take i pairs))
      (pair_names (drop i pairs)))
      ≡ first_refusal (names_after t columns (pair_names (take (i + 1) pairs))
      (pair_names (drop (i + 1) pairs)))
  name_fine e f = ap first_refusal here ∙ ap (λ b.
      first_refusal (where_so b (ColumnExists t p.0)
      ∷ unless (among p.0 (names_of columns)) (NoColumn p.0)
      ∷ names_after t columns (pair_names (take (i + 1) pairs)) (pair_names (drop (i + 1) pairs))))
      e
      ∙ ap (λ b. first_refusal (unless b (NoColumn p.0)
      ∷ names_after t columns (pair_names (take (i + 1) pairs))
      (pair_names (drop (i + 1) pairs))))
      (ap (among p.0) (sym (pair_names_of columns)) ∙ f)

-- the references of what is set, from a place on
module _ (columns : List Column) (sets : List (List ℕ × Expr)) (i : ℕ) (p : List ℕ × Expr)
    (below : i < length sets) (is : p ≡ get_or sets i p) (rest : List ColRef) where
  here_then : set_references (sets_of (drop i sets)) ++ rest ≡ references (tree p.1)
      ++ (set_references (sets_of (drop (i + 1) sets)) ++ rest)
  here_then = ap (λ more. set_references (sets_of more) ++ rest) (drop_at sets i p below is)
      ∙ append_assoc (references (tree p.1)) (set_references (sets_of (drop (i + 1) sets))) rest

  either : (rs : List ColRef) → first_unknown (own_kinds columns) (references (tree p.1) ++ rs)
      ≡ option_or (first_unknown (own_kinds columns) (references (tree p.1)))
      (first_unknown (own_kinds columns) rs)
  either rs = unknown_append (own_kinds columns) (references (tree p.1)) rs

  pub reference_here : (r : Refusal) → reference_fault columns (references (tree p.1)) ≡ Some r
      → reference_fault columns (set_references (sets_of (drop i sets)) ++ rest) ≡ Some r
  reference_here r e =
      ap (reference_fault columns) here_then ∙ ap (option_map NoColumn)
      (either (set_references (sets_of (drop (i + 1) sets)) ++ rest))
      ∙ first_stays (first_unknown (own_kinds columns) (references (tree p.1)))
      (first_unknown (own_kinds columns) (set_references (sets_of (drop (i + 1) sets)) ++ rest))
      e
    where
      first_stays : (a b : Option (List ℕ)) → option_map NoColumn a ≡ Some r
          → option_map NoColumn (option_or a b) ≡ Some r
      first_stays None b q = absurd (cc)
      first_stays (Some n) b q = q

  pub reference_later : reference_fault columns (references (tree p.1)) ≡ None
      → reference_fault columns (set_references (sets_of (drop i sets)) ++ rest)
      ≡ reference_fault columns (set_references (sets_of (drop (i + 1) sets)) ++ rest)
  reference_later e =
      ap (reference_fault columns) here_then ∙ ap (option_map NoColumn)
      (either (set_references (sets_of (drop (i + 1) sets)) ++ rest))
      ∙ ap (λ a. option_map NoColumn (option_or a
      (first_unknown (own_kinds columns) (set_references (sets_of (drop (i + 1) sets))
      ++ rest)))) (none_mapped NoColumn (first_unknown (own_kinds columns)
      (references (tree p.1))) e)

-- each tree is small
pub small_here : (sets : List (List ℕ × Expr)) (i : ℕ) (p : List ℕ × Expr) → i < length sets
    → p ≡ get_or sets i p → AreSmall (sets_of (drop i sets))
    → (nodes_of (tree p.1) ≤ 256) × AreSmall (sets_of (drop (i + 1) sets))
small_here sets i p below is h = subst (λ more. AreSmall (sets_of more)) (drop_at sets i p below is)
    h

pub known_both : (columns : List Column) (a b : List ColRef)
    → first_unknown (own_kinds columns) (a ++ b) ≡ None
    → (first_unknown (own_kinds columns) a ≡ None) × (first_unknown (own_kinds columns) b ≡ None)
known_both columns a b e = step (first_unknown (own_kinds columns) a)
    (first_unknown (own_kinds columns) b) (sym (unknown_append (own_kinds columns) a b) ∙ e)
  where
    step : (x y : Option (List ℕ)) → option_or x y ≡ None → (x ≡ None) × (y ≡ None)
    step None y q = (refl, q)
    step (Some n) y q = absurd (cc)

-- what is known of all references, of the first tree's and of the others'
pub known_here : (columns : List Column) (sets : List (List ℕ × Expr)) (i : ℕ) (p : List ℕ × Expr)
    → i < length sets → p ≡ get_or sets i p
    → first_unknown (own_kinds columns) (set_references (sets_of (drop i sets))) ≡ None
    → (first_unknown (own_kinds columns) (references (tree p.1)) ≡ None)
    × (first_unknown (own_kinds columns) (set_references (sets_of (drop (i + 1) sets))) ≡ None)
known_here columns sets i p below is e =
    known_both columns (references (tree p.1)) (set_references (sets_of (drop (i + 1) sets)))
    (ap (λ more. first_unknown (own_kinds columns) (set_references (sets_of more)))
    (sym (drop_at sets i p below is)) ∙ e)

-- the tests of what is set, from a place on
module _ (columns : List Column) (at : ℕ) (sets : List (List ℕ × Expr)) (i : ℕ) (p : List ℕ × Expr)
    (below : i < length sets) (is : p ≡ get_or sets i p) where
  set_here : set_faults columns at (sets_of (drop i sets)) ≡ set_tests columns at (p.0, tree p.1)
      ++ set_faults columns (at + nodes_of (tree p.1)) (sets_of (drop (i + 1) sets))
  set_here = ap (λ more. set_faults columns at (sets_of more)) (drop_at sets i p below is)

  pub set_wrong : (r : Refusal) → first_refusal (set_tests columns at (p.0, tree p.1)) ≡ Some r
      → first_refusal (set_faults columns at (sets_of (drop i sets))) ≡ Some r
  set_wrong r e = ap first_refusal set_here ∙ first_before (set_tests columns at (p.0, tree p.1))
      (set_faults columns (at + nodes_of (tree p.1)) (sets_of (drop (i + 1) sets))) r e

  pub set_fits : (next : ℕ) → first_refusal (set_tests columns at (p.0, tree p.1)) ≡ None
      → next ≡ at + nodes_of (tree p.1)
      → first_refusal (set_faults columns at (sets_of (drop i sets)))
      ≡ first_refusal (set_faults columns next (sets_of (drop (i + 1) sets)))
  set_fits next e n = ap first_refusal set_here
      ∙ first_after (set_tests columns at (p.0, tree p.1))
      (set_faults columns (at + nodes_of (tree p.1)) (sets_of (drop (i + 1) sets))) e
      ∙ ap (λ m. first_refusal (set_faults columns m (sets_of (drop (i + 1) sets)))) (sym n)

  pub nodes_here : sets_nodes (sets_of (drop i sets))
      ≡ nodes_of (tree p.1) + sets_nodes (sets_of (drop (i + 1) sets))
  nodes_here = ap (λ more. sets_nodes (sets_of more)) (drop_at sets i p below is)
