-- The value of an expression and the truth of a condition, by cases on the form.
use Rattle.std.specs.Prelude.{ℕ, List, [], ◌++◌, Bool, true, false, not, ◌&&◌, ◌||◌, length, take}
use Rattle.std.specs.Prelude.{pos, if◌then◌else◌}
use Rattle.std.specs.declared.cmp.Ordering.{Ordering}
use Rattle.std.specs.Ordering.{is_eq, is_lt, is_gt, is_le}
use Rattle.prima_base.specs.declared.value.Value.{Value}
use Rattle.prima_base.specs.declared.value.Value.TheVariants.{Int, Text}
use Rattle.prima_base.specs.Order.{value_cmp, bytes_of}
use Rattle.prima_base.specs.Limits.{max_text}
use Rattle.cond_expr.specs.declared.expr.Whose.{Whose}
use Rattle.cond_expr.specs.declared.expr.Whose.TheVariants.{Free, Alias, Atom}
use Rattle.cond_expr.specs.declared.expr.CmpOp.{CmpOp}
use Rattle.cond_expr.specs.declared.expr.CmpOp.TheVariants.{Eq, Ne, Lt, Le, Gt, Ge}
use Rattle.cond_expr.specs.Trees.{Tree, column, constant, length_of, joined, choose, Trees}
use Rattle.cond_expr.specs.Trees.{no_trees, a_tree, Test, never, always, compared, all_of, some_of}
use Rattle.cond_expr.specs.Trees.{fails, Tests, no_tests, a_test}

-- what each reference stands for
abbrev pub Cells : Type 0
Cells = Whose → List ℕ → Value

-- what the columns of atoms hold; no other reference has a meaning
abbrev pub over : (ℕ → List ℕ → Value) → Cells
over at Free n = Int (pos 0)
over at (Alias a) n = Int (pos 0)
over at (Atom i) n = at i n

abbrev pub agrees : CmpOp → Ordering → Bool
agrees Eq r = is_eq r
agrees Ne r = not (is_eq r)
agrees Lt r = is_lt r
agrees Le r = is_le r
agrees Gt r = is_gt r
agrees Ge r = not (is_lt r)

abbrev mutual
  pub value : Cells → Tree → Value
  value at (column w n) = at w n
  value at (constant v) = v
  value at (length_of t) = Int (pos (length (bytes_of (value at t))))
  value at (joined ts) = Text (take max_text (texts at ts))
  value at (choose c a b) = if truth at c then value at a else value at b

  pub texts : Cells → Trees → List ℕ
  texts at no_trees = []
  texts at (a_tree t ts) = bytes_of (value at t) ++ texts at ts

  pub truth : Cells → Test → Bool
  truth at never = false
  truth at always = true
  truth at (compared o a b) = agrees o (value_cmp (value at a) (value at b))
  truth at (all_of cs) = all_true at cs
  truth at (some_of cs) = some_true at cs
  truth at (fails c) = not (truth at c)

  pub all_true : Cells → Tests → Bool
  all_true at no_tests = true
  all_true at (a_test c cs) = truth at c && all_true at cs

  pub some_true : Cells → Tests → Bool
  some_true at no_tests = false
  some_true at (a_test c cs) = truth at c || some_true at cs

-- what of an expression has its value: of a CASE what it chooses, and of any other all of it
abbrev pub chosen : Cells → Tree → Tree
chosen at (column w n) = column w n
chosen at (constant v) = constant v
chosen at (length_of t) = length_of t
chosen at (joined ts) = joined ts
chosen at (choose c a b) = if truth at c then chosen at a else chosen at b
