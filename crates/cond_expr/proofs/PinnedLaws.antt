-- A constant with which a part compares a column, where the condition holds.
use Rattle.std.proofs.Common.{◌≡◌, ℕ, ◌+◌, ◌<◌, length, map, drop, get_or, Bool, true, false, cond}
use Rattle.std.proofs.Common.{List, [], ◌∷◌, ◌++◌, refl, sym, ap, ◌∙◌, arith, inl, inr}
use Rattle.std.specs.Prelude.{◌&&◌, ◌==◌, ◌⊎◌, Option, Some, None}
use Rattle.std.specs.Option.{option_or}
use Rattle.std.proofs.lemmas.Bool.Decides.{nat_tests}
use Rattle.std.proofs.lemmas.List.{drop_more}
use Rattle.prima_base.specs.declared.value.Value.{Value}
use Rattle.prima_base.specs.Order.{value_cmp, same}
use Rattle.prima_base.specs.OrderLaws.{same_is}
use Rattle.cond_expr.specs.declared.expr.Whose.TheVariants.{Free, Alias, Atom}
use Rattle.cond_expr.specs.declared.expr.CmpOp.{CmpOp}
use Rattle.cond_expr.specs.declared.expr.Column.{Column}
use Rattle.cond_expr.specs.declared.expr.Cond.{Cond}
use Rattle.cond_expr.specs.Seen.{test, tests_of}
use Rattle.cond_expr.specs.Trees.{Tree, column, constant, length_of, joined, choose, Test, never}
use Rattle.cond_expr.specs.Trees.{always, compared, all_of, some_of, fails, Tests, no_tests, a_test}
use Rattle.cond_expr.specs.Values.{Cells, value, truth, all_true, agrees}
use Rattle.cond_expr.specs.Parts.{parts, all_parts}
use Rattle.cond_expr.specs.Comparisons.{turned_op, same_way}
use Rattle.cond_expr.proofs.ComparisonLaws.{same_way_is, agrees_turned}
use Rattle.cond_expr.specs.PinnedParts.{is_column, constant_of, pinned_by, first_pinned, pinned}

-- ---- a tree that is a column, one that is a constant

both : (a b : Bool) → (a && b) ≡ true → (a ≡ true) × (b ≡ true)
both true b e = (refl, e)
both false b e = absurd (cc)

same_atom : (i j : ℕ) → (i == j) ≡ true → i ≡ j
same_atom i j e = grind (arith, nat_tests)

is_constant : (at : Cells) (t : Tree) (v : Value) → constant_of t ≡ Some v → value at t ≡ v
is_constant at (column w n) v e = absurd (cc)
is_constant at (constant x) v e = cc
is_constant at (length_of t) v e = absurd (cc)
is_constant at (joined ts) v e = absurd (cc)
is_constant at (choose d a b) v e = absurd (cc)

taken : (b : Bool) (o : Option Value) (v : Value) → cond b o None ≡ Some v → (b ≡ true)
    × (o ≡ Some v)
taken true o v e = (refl, e)
taken false o v e = absurd (cc)

-- one of the two has it
from_first : (a b : Option Value) (v : Value) → option_or a b ≡ Some v → (a ≡ Some v)
    ⊎ (b ≡ Some v)
from_first None b v e = inr e
from_first (Some x) b v e = inl e

module _ (at : Cells) (c : Column) where
  column_value : (t : Tree) → is_column c t ≡ true → value at t ≡ at (Atom c.atom) c.name
  column_value (column Free n) e = absurd (cc)
  column_value (column (Alias a) n) e = absurd (cc)
  column_value (column (Atom i) n) e =
      let b = both (c.atom == i) (same n c.name) e in
      ap (λ (j : ℕ). at (Atom j) n) (sym (same_atom c.atom i b.0))
      ∙ ap (at (Atom c.atom)) (same_is n c.name b.1)
  column_value (constant v) e = absurd (cc)
  column_value (length_of t) e = absurd (cc)
  column_value (joined ts) e = absurd (cc)
  column_value (choose d a b) e = absurd (cc)

  -- the part compares so
  part_holds : (o : CmpOp) (t : Test) (v : Value) → truth at t ≡ true → pinned_by o c t ≡ Some v
      → agrees o (value_cmp (at (Atom c.atom) c.name) v) ≡ true
  part_holds o never v h e = absurd (cc)
  part_holds o always v h e = absurd (cc)
  part_holds o (compared p a b) v h e =
      elim (from_first (cond (same_way o p && is_column c a) (constant_of b) None)
      (cond (same_way o (turned_op p) && is_column c b) (constant_of a) None) v e) [
        | inl f ↦ plain (taken (same_way o p && is_column c a) (constant_of b) v f)
        | inr f ↦ opposite (taken (same_way o (turned_op p) && is_column c b) (constant_of a) v f)
      ]
    where
      plain : ((same_way o p && is_column c a) ≡ true) × (constant_of b ≡ Some v)
          → agrees o (value_cmp (at (Atom c.atom) c.name) v) ≡ true
      plain (f, g) =
          let k = both (same_way o p) (is_column c a) f in
          ap (λ (w : CmpOp). agrees w (value_cmp (at (Atom c.atom) c.name) v)) (same_way_is o p k.0)
          ∙ ap (λ (x : Value). agrees p (value_cmp x v)) (sym (column_value a k.1))
          ∙ ap (λ (x : Value). agrees p (value_cmp (value at a) x)) (sym (is_constant at b v g)) ∙ h

      opposite : ((same_way o (turned_op p) && is_column c b) ≡ true) × (constant_of a ≡ Some v)
          → agrees o (value_cmp (at (Atom c.atom) c.name) v) ≡ true
      opposite (f, g) =
          let k = both (same_way o (turned_op p)) (is_column c b) f in
          ap (λ (w : CmpOp). agrees w (value_cmp (at (Atom c.atom) c.name) v))
          (same_way_is o (turned_op p) k.0)
          ∙ ap (λ (x : Value). agrees (turned_op p) (value_cmp x v)) (sym (column_value b k.1))
          ∙ ap (λ (x : Value). agrees (turned_op p) (value_cmp (value at b) x))
          (sym (is_constant at a v g))
          ∙ agrees_turned p (value at a) (value at b) ∙ h
  part_holds o (all_of cs) v h e = absurd (cc)
  part_holds o (some_of cs) v h e = absurd (cc)
  part_holds o (fails d) v h e = absurd (cc)

first_of_both : (o : CmpOp) (c : Column) (ts us : List Test)
    → first_pinned o c (ts ++ us) ≡ option_or (first_pinned o c ts) (first_pinned o c us)
first_of_both o c [] us = refl
first_of_both o c (t ∷ ts) us =
    elim (pinned_by o c t) as (λ (x : Option Value).
    option_or x (first_pinned o c (ts ++ us))
    ≡ option_or (option_or x (first_pinned o c ts)) (first_pinned o c us)) [
      | None ↦ first_of_both o c ts us
      | Some v ↦ refl
    ]

one_some : (x : Option Value) → option_or x None ≡ x
one_some None = refl
one_some (Some v) = refl

module _ (at : Cells) (o : CmpOp) (c : Column) where
  mutual
    pub pinned_holds : (t : Test) (v : Value) → truth at t ≡ true → pinned o c t ≡ Some v
        → agrees o (value_cmp (at (Atom c.atom) c.name) v) ≡ true
    pinned_holds never v h e = absurd (cc)
    pinned_holds always v h e = absurd (cc)
    pinned_holds (compared p a b) v h e = part_holds at c o (compared p a b) v h
        (sym (one_some (pinned_by o c (compared p a b))) ∙ e)
    pinned_holds (all_of cs) v h e = all_pinned_hold cs v h e
    pinned_holds (some_of cs) v h e = absurd (cc)
    pinned_holds (fails d) v h e = absurd (cc)

    all_pinned_hold : (cs : Tests) (v : Value) → all_true at cs ≡ true
        → first_pinned o c (all_parts cs) ≡ Some v
        → agrees o (value_cmp (at (Atom c.atom) c.name) v) ≡ true
    all_pinned_hold no_tests v h e = absurd (cc)
    all_pinned_hold (a_test t cs) v h e =
        let b = both (truth at t) (all_true at cs) h in
        elim (from_first (pinned o c t) (first_pinned o c (all_parts cs)) v
        (sym (first_of_both o c (parts t) (all_parts cs)) ∙ e)) [
          | inl f ↦ pinned_holds t v b.0 f
          | inr f ↦ all_pinned_hold cs v b.1 f
        ]

-- the members of an AND from a place on
pub pinned_from : (o : CmpOp) (c : Column) (list : List Cond) (i : ℕ) (part : Cond)
    → i < length list → part ≡ get_or list i part
    → first_pinned o c (all_parts (tests_of (map test (drop i list))))
    ≡ option_or (pinned o c (test part))
    (first_pinned o c (all_parts (tests_of (map test (drop (i + 1) list)))))
pinned_from o c list i part h is =
    ap (λ (l : List Cond). first_pinned o c (all_parts (tests_of (map test l))))
    (drop_more list i part h ∙ ap (λ (x : Cond). x ∷ drop (i + 1) list) (sym is))
    ∙ first_of_both o c (parts (test part)) (all_parts (tests_of (map test (drop (i + 1) list))))
