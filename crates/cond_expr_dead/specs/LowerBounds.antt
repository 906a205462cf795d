-- The greatest of the values at which the lower bounds of a column begin: no value below it is let
-- by all of them.
use Rattle.std.specs.Prelude.{ℕ, ◌&&◌, Bool, true, false, not, List, [], ◌∷◌, Option, Some, None}
use Rattle.std.specs.Prelude.{if◌then◌else◌}
use Rattle.std.specs.Ordering.{is_lt, is_gt}
use Rattle.std.specs.declared.cmp.Ordering.{Ordering}
use Rattle.prima_base.specs.declared.value.Value.{Value}
use Rattle.prima_base.specs.Order.{value_cmp}
use Rattle.cond_expr.specs.declared.expr.CmpOp.{CmpOp}
use Rattle.cond_expr.specs.declared.expr.CmpOp.TheVariants.{Eq, Ne, Lt, Le, Gt, Ge}
use Rattle.cond_expr.specs.Trees.{Test}
use Rattle.cond_expr.specs.Parts.{Bound, bound_of, is_on}
use Rattle.cond_expr_dead.specs.Steps.{following}
use Rattle.cond_expr_dead.specs.Tried.{is_let}

-- the least value of which the comparison holds, where it is a lower bound and there is one
abbrev pub bottom : CmpOp → Value → Option Value
bottom Eq v = Some v
bottom Ne v = None
bottom Lt v = None
bottom Le v = None
bottom Gt v = following v
bottom Ge v = Some v

-- a value that compares so with the constant is not below that least value
abbrev pub is_reached : CmpOp → Ordering → Bool
is_reached Eq r = not (is_lt r)
is_reached Ne r = true
is_reached Lt r = true
is_reached Le r = true
is_reached Gt r = is_gt r
is_reached Ge r = not (is_lt r)

-- the greater of the two: of the least value of a comparison with a constant, and of another value
abbrev pub higher : CmpOp → Value → Option Value → Option Value → Option Value
higher o c None top = top
higher o c (Some v) None = Some v
higher o c (Some v) (Some top) = if is_reached o (value_cmp top c) then Some top else Some v

abbrev pub raised : ℕ → List ℕ → Option Bound → Option Value → Option Value
raised i n None top = top
raised i n (Some b) top =
    if is_on i n (Some b) then higher b.op b.limit (bottom b.op b.limit) top else top

-- the greatest of these of all parts of the column, and of a value before
abbrev pub highest : ℕ → List ℕ → List Test → Option Value → Option Value
highest i n [] top = top
highest i n (t ∷ ts) top = highest i n ts (raised i n (bound_of t) top)

-- ---- values past it

abbrev pub is_ne : CmpOp → Bool
is_ne Eq = false
is_ne Ne = true
is_ne Lt = false
is_ne Le = false
is_ne Gt = false
is_ne Ge = false

-- the part excludes a value of the column, and the next one is let by all
abbrev pub excludes : ℕ → List ℕ → List Test → Option Bound → Bool
excludes i n ts None = false
excludes i n ts (Some b) =
    is_on i n (Some b) && (is_ne b.op && is_let i n ts (following b.limit))
