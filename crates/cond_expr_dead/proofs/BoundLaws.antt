-- What a part that compares just one column with a constant says of a value of the column.
use Rattle.std.proofs.Common.{◌≡◌, ℕ, true, false, List, refl, sym, ap, subst, ◌∙◌}
use Rattle.std.specs.Prelude.{◌==◌, Option, Some, None}
use Rattle.std.proofs.lemmas.Bool.{cond-true, cond-false, and_parts, eqb-true}
use Rattle.prima_base.specs.declared.value.Value.{Value}
use Rattle.prima_base.specs.declared.value.ColType.{ColType}
use Rattle.prima_base.specs.declared.value.ColType.TheVariants.{Int as INT, Text as TEXT}
use Rattle.prima_base.specs.Order.{value_cmp, same}
use Rattle.prima_base.specs.OrderLaws.{value_total, same_is}
use Rattle.cond_expr.specs.declared.expr.Whose.TheVariants.{Free, Alias, Atom}
use Rattle.cond_expr.specs.declared.expr.CmpOp.{CmpOp}
use Rattle.cond_expr.specs.Trees.{Tree, column, constant, length_of, joined, choose, Test, never}
use Rattle.cond_expr.specs.Trees.{always, compared, all_of, some_of, fails}
use Rattle.cond_expr.specs.Values.{Cells, truth, agrees}
use Rattle.cond_expr.specs.Kinds.{Kinds, value_kind, same_type, same_kind, is_typed}
use Rattle.cond_expr.specs.Comparisons.{turned_op}
use Rattle.cond_expr.proofs.ComparisonLaws.{agrees_reversed}
use Rattle.cond_expr.specs.Parts.{Bound, column_with, sides, bound_of, is_on, compares_just, lets}

-- the part is a comparison of the column with the constant, on one of its sides
pub data IsBound : Test → Bound → Type 0 where
  on_left : (b : Bound) → IsBound (compared b.op (column (Atom b.atom) b.name) (constant b.limit)) b
  on_right : (o : CmpOp) (i : ℕ) (n : List ℕ) (v : Value)
      → IsBound (compared o (constant v) (column (Atom i) n))
      (record { atom = i; name = n; op = turned_op o; limit = v })

pub some_same : {A : Type 0} (a b : A) → Some a ≡ Some b → a ≡ b
some_same a b e = cc

left_bound : (o : CmpOp) (a : Tree) (v : Value) (b : Bound) → column_with o a v ≡ Some b
    → IsBound (compared o a (constant v)) b
left_bound o (column Free n) v b h = absurd (cc)
left_bound o (column (Alias a) n) v b h = absurd (cc)
left_bound o (column (Atom i) n) v b h = subst
    (IsBound (compared o (column (Atom i) n) (constant v))) (some_same _ b h)
    (on_left (record { atom = i; name = n; op = o; limit = v }))
left_bound o (constant w) v b h = absurd (cc)
left_bound o (length_of t) v b h = absurd (cc)
left_bound o (joined ts) v b h = absurd (cc)
left_bound o (choose c x y) v b h = absurd (cc)

right_bound : (o : CmpOp) (a : Tree) (v : Value) (b : Bound)
    → column_with (turned_op o) a v ≡ Some b
    → IsBound (compared o (constant v) a) b
right_bound o (column Free n) v b h = absurd (cc)
right_bound o (column (Alias a) n) v b h = absurd (cc)
right_bound o (column (Atom i) n) v b h = subst
    (IsBound (compared o (constant v) (column (Atom i) n))) (some_same _ b h) (on_right o i n v)
right_bound o (constant w) v b h = absurd (cc)
right_bound o (length_of t) v b h = absurd (cc)
right_bound o (joined ts) v b h = absurd (cc)
right_bound o (choose c x y) v b h = absurd (cc)

sides_bound : (o : CmpOp) (x y : Tree) (b : Bound) → sides o x y ≡ Some b
    → IsBound (compared o x y) b
sides_bound o (constant v) y b h = right_bound o y v b h
sides_bound o (column w n) (constant v) b h = left_bound o (column w n) v b h
sides_bound o (length_of t) (constant v) b h = left_bound o (length_of t) v b h
sides_bound o (joined ts) (constant v) b h = left_bound o (joined ts) v b h
sides_bound o (choose c s t) (constant v) b h = left_bound o (choose c s t) v b h
sides_bound o x y b h = absurd (cc)

pub bound_is : (t : Test) (b : Bound) → bound_of t ≡ Some b → IsBound t b
bound_is never b h = absurd (cc)
bound_is always b h = absurd (cc)
bound_is (compared o x y) b h = sides_bound o x y b h
bound_is (all_of cs) b h = absurd (cc)
bound_is (some_of cs) b h = absurd (cc)
bound_is (fails c) b h = absurd (cc)

-- ---- what it says

-- over any cells, the truth of the part is that of its comparison
pub bound_truth : (at : Cells) (t : Test) (b : Bound) → IsBound t b
    → truth at t ≡ agrees b.op (value_cmp (at (Atom b.atom) b.name) b.limit)
bound_truth at t b (on_left _) = refl
bound_truth at t b (on_right o i n v) =
    sym (agrees_reversed o (value_cmp v (at (Atom i) n)))
    ∙ ap (agrees (turned_op o)) (sym (value_total.antisymm (at (Atom i) n) v))

pub on_column : (i : ℕ) (n : List ℕ) (b : Bound) → is_on i n (Some b) ≡ true → (b.atom ≡ i)
    × (b.name ≡ n)
on_column i n b h = let k = and_parts (b.atom == i) (same b.name n) h in
    (eqb-true b.atom i k.0, same_is b.name n k.1)

-- where the column has the value, a part of it lets it just where it agrees
pub lets_bound : (i : ℕ) (n : List ℕ) (v : Value) (t : Test) (b : Bound) → bound_of t ≡ Some b
    → is_on i n (Some b) ≡ true
    → lets i n v t ≡ agrees b.op (value_cmp v b.limit)
lets_bound i n v t b e h =
    cond-true (compares_just i n t) (truth (λ w m. v) t) true (ap (is_on i n) e ∙ h)
    ∙ bound_truth (λ w m. v) t b (bound_is t b e)

pub lets_other : (i : ℕ) (n : List ℕ) (v : Value) (t : Test) → compares_just i n t ≡ false
    → lets i n v t ≡ true
lets_other i n v t e = cond-false (compares_just i n t) (truth (λ w m. v) t) true e

-- ---- its types

same_types : (k l : ColType) → same_type k l ≡ true → k ≡ l
same_types INT INT h = refl
same_types INT TEXT h = absurd (cc)
same_types TEXT INT h = absurd (cc)
same_types TEXT TEXT h = refl

kind_left : (o : Option ColType) (k : ColType) → same_kind o (Some k) ≡ true → o ≡ Some k
kind_left None k h = absurd (cc)
kind_left (Some l) k h = ap Some (same_types l k h)

kind_right : (o : Option ColType) (k : ColType) → same_kind (Some k) o ≡ true → o ≡ Some k
kind_right None k h = absurd (cc)
kind_right (Some l) k h = ap Some (sym (same_types k l h))

-- the column of a part that has a type is of the constant's type
pub bound_kind : (of : Kinds) (t : Test) (b : Bound) → IsBound t b → is_typed of t ≡ true
    → of (Atom b.atom) b.name ≡ Some (value_kind b.limit)
bound_kind of t b (on_left _) h = kind_left (of (Atom b.atom) b.name) (value_kind b.limit) h
bound_kind of t b (on_right o i n v) h = kind_right (of (Atom i) n) (value_kind v) h
