-- The top-level parts of a condition, and those that compare just one column with a constant.
-- Nothing under OR or NOT is a part.
use Rattle.std.specs.Prelude.{◌≡◌, ◌⊎◌, ℕ, ◌==◌, ◌&&◌, ◌++◌, List, [], ◌∷◌, Bool, true, false}
use Rattle.std.specs.Prelude.{Option, Some, None, if◌then◌else◌}
use Rattle.std.specs.List.{list_all}
use Rattle.prima_base.specs.declared.value.Value.{Value}
use Rattle.relations_spec.specs.Sets.{In}
use Rattle.prima_base.specs.declared.value.ColType.{ColType}
use Rattle.prima_base.specs.Columns.{IsValid}
use Rattle.prima_base.specs.Order.{same}
use Rattle.cond_expr.specs.declared.expr.Whose.TheVariants.{Free, Alias, Atom}
use Rattle.cond_expr.specs.declared.expr.CmpOp.{CmpOp}
use Rattle.cond_expr.specs.Comparisons.{turned_op}
use Rattle.cond_expr.specs.Trees.{Tree, column, constant, length_of, joined, choose, Test, never}
use Rattle.cond_expr.specs.Trees.{always, compared, all_of, some_of, fails, Tests, no_tests, a_test}
use Rattle.cond_expr.specs.Values.{truth}
use Rattle.cond_expr.specs.Kinds.{Kinds, value_kind}

-- the condition itself or, for an AND, those of its members; a TRUE has these
abbrev mutual
  pub parts_with : List Test → Test → List Test
  parts_with of_true never = never ∷ []
  parts_with of_true always = of_true
  parts_with of_true (compared o a b) = compared o a b ∷ []
  parts_with of_true (all_of cs) = all_parts_with of_true cs
  parts_with of_true (some_of cs) = some_of cs ∷ []
  parts_with of_true (fails c) = fails c ∷ []

  pub all_parts_with : List Test → Tests → List Test
  all_parts_with of_true no_tests = []
  all_parts_with of_true (a_test c cs) = parts_with of_true c ++ all_parts_with of_true cs

-- a TRUE is its own part
abbrev pub parts : Test → List Test
parts c = parts_with (always ∷ []) c

abbrev pub all_parts : Tests → List Test
all_parts cs = all_parts_with (always ∷ []) cs

-- the parts but for each TRUE, which adds nothing to a condition
abbrev pub parts_but_true : Test → List Test
parts_but_true c = parts_with [] c

abbrev pub all_parts_but_true : Tests → List Test
all_parts_but_true cs = all_parts_with [] cs

-- ---- parts that compare just one column with a constant

-- a column of an atom, how it is compared, and with which constant
pub record Bound : Type 0 where
  pub atom : ℕ
  pub name : List ℕ
  pub op : CmpOp
  pub limit : Value

-- a column of an atom, and a constant
abbrev pub column_with : CmpOp → Tree → Value → Option Bound
column_with o (column Free n) v = None
column_with o (column (Alias a) n) v = None
column_with o (column (Atom i) n) v = Some (record { atom = i; name = n; op = o; limit = v })
column_with o (constant w) v = None
column_with o (length_of t) v = None
column_with o (joined ts) v = None
column_with o (choose c a b) v = None

-- a constant on the left, or else one on the right
abbrev pub sides : CmpOp → Tree → Tree → Option Bound
sides o (constant v) b = column_with (turned_op o) b v
sides o a (constant v) = column_with o a v
sides o a b = None

-- the part as such a comparison, the column on its left
abbrev pub bound_of : Test → Option Bound
bound_of never = None
bound_of always = None
bound_of (compared o a b) = sides o a b
bound_of (all_of cs) = None
bound_of (some_of cs) = None
bound_of (fails c) = None

-- it is of this column
abbrev pub is_on : ℕ → List ℕ → Option Bound → Bool
is_on i n None = false
is_on i n (Some b) = (b.atom == i) && same b.name n

-- Whether the part compares just this column with a constant. The constant may stand on either
-- side.
abbrev pub compares_just : ℕ → List ℕ → Test → Bool
compares_just i n t = is_on i n (bound_of t)

-- the part lets the column have the value: it holds of it, where it compares just this column with
-- a constant
abbrev pub lets : ℕ → List ℕ → Value → Test → Bool
lets i n v t = if compares_just i n t then truth (λ w m. v) t else true

-- all the parts let it
abbrev pub all_let : ℕ → List ℕ → List Test → Value → Bool
all_let i n ts v = list_all (lets i n v) ts

-- ---- dead conditions

-- a value of the type: an INT in range, or a TEXT of at most 4,096 valid bytes
abbrev pub IsOf : ColType → Value → Type 0
IsOf k v = (value_kind v ≡ k) × IsValid v

-- some column, as the kinds have it, of which the parts leave no value of its type
pub record HasEmpty (of : Kinds) (ts : List Test) : Type 0 where
  pub atom : ℕ
  pub name : List ℕ
  pub kind : ColType
  pub there : of (Atom atom) name ≡ Some kind
  pub none : (v : Value) → IsOf kind v → all_let atom name ts v ≡ false

-- A condition that can be seen to hold of no values: a part is FALSE, or the parts that compare
-- just one column with a constant leave no value of its type.
abbrev pub IsDead : Kinds → Test → Type 0
IsDead of c = In never (parts c) ⊎ HasEmpty of (parts c)
