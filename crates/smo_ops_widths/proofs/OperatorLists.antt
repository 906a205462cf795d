-- Operators one after the other, as the code walks them.
use Rattle.std.proofs.Common.{◌≡◌, ◌-◌, ◌<◌, ◌≤◌, ℕ, List, [], ◌∷◌, length, get_or, take, drop, sym}
use Rattle.std.proofs.Common.{ap}
use Rattle.std.proofs.Common.{subst, ◌∙◌, arith}
use Rattle.std.proofs.lemmas.List.{take_all}
use Rattle.std.specs.Prelude.{None}
use Rattle.schema_catalog.specs.Tables.{Tables}
use Rattle.smo_ops_types.specs.declared.op.Op.{Op}
use Rattle.smo_ops_types.specs.Operators.{Operator, operator_of, operators_of, evolutions_of}
use Rattle.smo_ops_spec.specs.After.{op_fault, schema_after, HaveFewNodes}
use Rattle.smo_ops_spec.specs.Evolutions.{AllOperatorsAccepted}
use Rattle.smo_ops_spec.proofs.OneMembers.{members_of_ones}
use Rattle.smo_ops_versions_spec.specs.Steps.{carrying_each, taken}
use Rattle.smo_ops_versions_spec.specs.Ways.{back_over, step_back}
use Rattle.smo_ops_widths.specs.Widths.{Widths, widths_over, widths_stepped}
use Rattle.smo_ops_widths.specs.declared.width.TableWidth.{TableWidth}
use Rattle.smo_ops_widths.specs.Shown.{Show}

-- the first of operators that are all accepted is
pub first_accepted : (tables : Tables) (ops : List Op) (op : Op) → 1 ≤ length ops
    → op ≡ get_or ops 0 op → AllOperatorsAccepted tables (operators_of ops)
    → op_fault tables (operator_of op) ≡ None
first_accepted tables [] op l e a = absurd (omega arith)
first_accepted tables (x ∷ xs) op l e a = ap (λ (o : Op). op_fault tables (operator_of o)) e ∙ a.0

rest_is : (x : Op) (xs : List Op) → take (length (x ∷ xs) - 1) (drop 1 (x ∷ xs)) ≡ xs
rest_is x xs = take_all (length (x ∷ xs) - 1) xs (omega arith)

-- the operators after the first are fewer, and have few nodes where all have
pub rest_shorter : (ops : List Op) → 1 ≤ length ops
    → length (take (length ops - 1) (drop 1 ops)) < length ops
rest_shorter [] l = absurd (omega arith)
rest_shorter (x ∷ xs) l = subst (λ (ys : List Op). length ys < length (x ∷ xs))
    (sym (rest_is x xs)) (omega arith)

pub rest_few : (ops : List Op) → 1 ≤ length ops → HaveFewNodes (operators_of ops)
    → HaveFewNodes (operators_of (take (length ops - 1) (drop 1 ops)))
rest_few [] l f = absurd (omega arith)
rest_few (x ∷ xs) l f = subst (λ (ys : List Op). HaveFewNodes (operators_of ys))
    (sym (rest_is x xs)) f.1

-- and they are accepted after the first
pub rest_accepted : (tables next : Tables) (op : Op) (ops : List Op) → 1 ≤ length ops
    → op ≡ get_or ops 0 op → AllOperatorsAccepted tables (operators_of ops)
    → next ≡ schema_after tables (operator_of op)
    → AllOperatorsAccepted next (operators_of (take (length ops - 1) (drop 1 ops)))
rest_accepted tables next op [] l e a n = absurd (omega arith)
rest_accepted tables next op (x ∷ xs) l e a n =
    let now : next ≡ schema_after tables (operator_of x) = n
    ∙ ap (λ (o : Op). schema_after tables (operator_of o)) e in
    subst (λ (ys : List Op). AllOperatorsAccepted next (operators_of ys)) (sym (rest_is x xs))
    (subst (λ (t : Tables). AllOperatorsAccepted t (operators_of xs)) (sym now) a.1)

-- over the first, and then over the others
pub over_all : (tables next : Tables) (op : Op) (ops : List Op)
    (entries : List (List ℕ × TableWidth)) (shown : Widths) → 1 ≤ length ops
    → op ≡ get_or ops 0 op → next ≡ schema_after tables (operator_of op)
    → Show entries (taken widths_stepped (carrying_each next
    (operators_of (take (length ops - 1) (drop 1 ops))))
    (widths_over tables (operator_of op) shown))
    → Show entries (taken widths_stepped (carrying_each tables (operators_of ops)) shown)
over_all tables next op [] entries shown l e n s = absurd (omega arith)
over_all tables next op (x ∷ xs) entries shown l e n s =
    subst (λ (o : Op). Show entries (taken widths_stepped (carrying_each
    (schema_after tables (operator_of o)) (operators_of xs))
    (widths_over tables (operator_of o) shown))) e
    (subst (λ (t : Tables). Show entries (taken widths_stepped (carrying_each t
    (operators_of xs)) (widths_over tables (operator_of op) shown))) n
    (subst (λ (ys : List Op). Show entries (taken widths_stepped (carrying_each next
    (operators_of ys)) (widths_over tables (operator_of op) shown))) (rest_is x xs) s))

-- ---- back over an operator, as the code goes

-- with no operators, or over them all
module _ (k : ℕ) (before after : Tables) (op : Operator) (entries : List (List ℕ × TableWidth))
    (shown : Widths) where
  pub back_by_none : (ops : List Op) → length ops ≡ 0
      → Show entries (widths_stepped (step_back (k, 1) before op) shown)
      → Show entries (taken widths_stepped (back_over k before (op ∷ []) after
      (evolutions_of ops)) shown)
  back_by_none [] l s = s
  back_by_none (x ∷ xs) l s = absurd (omega (arith, l))

  pub back_by_each : (ops : List Op) → 1 ≤ length ops
      → Show entries (taken widths_stepped (carrying_each after (operators_of ops)) shown)
      → Show entries (taken widths_stepped (back_over k before (op ∷ []) after
      (evolutions_of ops)) shown)
  back_by_each [] l s = absurd (omega arith)
  back_by_each (x ∷ xs) l s = subst (λ (ops : List Operator).
      Show entries (taken widths_stepped (carrying_each after ops) shown))
      (sym (members_of_ones (operators_of (x ∷ xs)))) s
