-- The few values of which one is let by all the parts of a condition, where any value of the type
-- is: the least of the type, and those at which a part begins to hold.
use Rattle.std.specs.Prelude.{◌≡◌, ℕ, ◌&&◌, ◌||◌, List, Bool, true, false, not, Option, Some, None}
use Rattle.std.specs.List.{list_any}
use Rattle.prima_base.specs.declared.value.Value.{Value}
use Rattle.prima_base.specs.declared.value.ColType.{ColType}
use Rattle.prima_base.specs.Columns.{IsValid}
use Rattle.relations_spec.specs.Sets.{In}
use Rattle.cond_expr.specs.declared.expr.CmpOp.{CmpOp}
use Rattle.cond_expr.specs.declared.expr.CmpOp.TheVariants.{Eq, Ne, Lt, Le, Gt, Ge}
use Rattle.cond_expr.specs.Trees.{Test, never, always, compared, all_of, some_of, fails}
use Rattle.cond_expr.specs.Kinds.{value_kind}
use Rattle.cond_expr.specs.Parts.{parts, Bound, bound_of, is_on, all_let}
use Rattle.cond_expr_dead.specs.Steps.{least, following}

-- where a comparison with a constant begins to hold: at the constant or right after it, or else
-- from the least value on
abbrev pub beginning : CmpOp → Value → Option Value
beginning Eq v = Some v
beginning Ne v = following v
beginning Lt v = None
beginning Le v = None
beginning Gt v = following v
beginning Ge v = Some v

-- there is such a value, and all let it
abbrev pub is_let : ℕ → List ℕ → List Test → Option Value → Bool
is_let i n ts None = false
is_let i n ts (Some v) = all_let i n ts v

-- the part is of the column, and the value at which it begins to hold is let by all
abbrev pub offers : ℕ → List ℕ → List Test → Option Bound → Bool
offers i n ts None = false
offers i n ts (Some b) = is_on i n (Some b) && is_let i n ts (beginning b.op b.limit)

-- one of the values is let by all
abbrev pub one_is_let : ℕ → List ℕ → ColType → List Test → Bool
one_is_let i n k ts = all_let i n ts (least k) || list_any (λ t. offers i n ts (bound_of t)) ts

abbrev pub is_never : Test → Bool
is_never never = true
is_never always = false
is_never (compared o a b) = false
is_never (all_of cs) = false
is_never (some_of cs) = false
is_never (fails c) = false

-- the column of a part is left none of these values
abbrev pub empties : List Test → Option Bound → Bool
empties ts None = false
empties ts (Some b) = not (one_is_let b.atom b.name (value_kind b.limit) ts)

-- the part is FALSE, or its column is left none
abbrev pub kills : List Test → Test → Bool
kills ts t = is_never t || empties ts (bound_of t)

-- a top-level part of it does
abbrev pub is_killed : Test → Bool
is_killed c = list_any (kills (parts c)) (parts c)

-- the constants of the parts are valid
abbrev pub HaveValidLimits : List Test → Type 0
HaveValidLimits ts = (t : Test) (b : Bound) → In t ts → bound_of t ≡ Some b → IsValid b.limit
