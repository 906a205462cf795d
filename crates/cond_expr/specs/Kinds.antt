-- The type of an expression, None where some part of it is not well-typed.
use Rattle.std.specs.Prelude.{◌≡◌, ⊤, ℕ, List, [], ◌∷◌, Bool, true, false, ◌&&◌, Option, Some, None}
use Rattle.std.specs.Prelude.{cond}
use Rattle.prima_base.specs.declared.value.Value.{Value}
use Rattle.prima_base.specs.declared.value.Value.TheVariants.{Int, Text}
use Rattle.prima_base.specs.declared.value.ColType.{ColType}
use Rattle.prima_base.specs.declared.value.ColType.TheVariants.{Int as INT, Text as TEXT}
use Rattle.cond_expr.specs.declared.expr.Whose.{Whose}
use Rattle.cond_expr.specs.declared.expr.Column.{Column}
use Rattle.cond_expr.specs.Trees.{Tree, column, constant, length_of, joined, choose, Trees}
use Rattle.cond_expr.specs.Trees.{no_trees, a_tree, Test, never, always, compared, all_of, some_of}
use Rattle.cond_expr.specs.Trees.{fails, Tests, no_tests, a_test}
use Rattle.prima_base.specs.declared.value.Val.{Val}
use Rattle.prima_base.specs.Order.{shown}
use Rattle.cond_expr.specs.Rows.{names}
use Rattle.cond_expr.specs.Values.{Cells}

-- the type of what each reference stands for, None where it names nothing
abbrev pub Kinds : Type 0
Kinds = Whose → List ℕ → Option ColType

-- over columns: the first column that the reference names decides
abbrev pub kinds_of : List Column → Kinds
kinds_of [] w n = None
kinds_of (c ∷ cs) w n = cond (names w n c) (Some c.kind) (kinds_of cs w n)

abbrev pub value_kind : Value → ColType
value_kind (Int n) = INT
value_kind (Text t) = TEXT

abbrev pub is_text : Option ColType → Bool
is_text None = false
is_text (Some INT) = false
is_text (Some TEXT) = true

abbrev pub same_type : ColType → ColType → Bool
same_type INT INT = true
same_type INT TEXT = false
same_type TEXT INT = false
same_type TEXT TEXT = true

abbrev pub same_kind : Option ColType → Option ColType → Bool
same_kind None y = false
same_kind (Some x) None = false
same_kind (Some x) (Some y) = same_type x y

abbrev mutual
  pub kind_of : Kinds → Tree → Option ColType
  kind_of of (column w n) = of w n
  kind_of of (constant v) = Some (value_kind v)
  kind_of of (length_of t) = cond (is_text (kind_of of t)) (Some INT) None
  kind_of of (joined ts) = cond (all_text of ts) (Some TEXT) None
  kind_of of (choose c a b) = cond (is_typed of c && same_kind (kind_of of a) (kind_of of b))
      (kind_of of a) None

  pub all_text : Kinds → Trees → Bool
  all_text of no_trees = true
  all_text of (a_tree t ts) = is_text (kind_of of t) && all_text of ts

  pub is_typed : Kinds → Test → Bool
  is_typed of never = true
  is_typed of always = true
  is_typed of (compared o a b) = same_kind (kind_of of a) (kind_of of b)
  is_typed of (all_of cs) = all_typed of cs
  is_typed of (some_of cs) = all_typed of cs
  is_typed of (fails c) = is_typed of c

  pub all_typed : Kinds → Tests → Bool
  all_typed of no_tests = true
  all_typed of (a_test c cs) = is_typed of c && all_typed of cs

-- what each reference stands for is of its type
abbrev pub Fits : Kinds → Cells → Type 0
Fits of at = (w : Whose) (n : List ℕ) (k : ColType) → of w n ≡ Some k → value_kind (at w n) ≡ k

-- the values are of the columns' types, one for one
abbrev pub AreOf : List Column → List Val → Type 0
AreOf [] [] = ⊤
AreOf [] (v ∷ vs) = ⊥
AreOf (c ∷ cs) [] = ⊥
AreOf (c ∷ cs) (v ∷ vs) = (value_kind (shown v) ≡ c.kind) × AreOf cs vs
