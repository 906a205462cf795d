-- The constants with which top-level parts of a condition compare a column. Nothing under OR or NOT
-- is one.
use Rattle.std.specs.Prelude.{List, [], ◌∷◌, Bool, false, cond, ◌&&◌, Option, Some, None}
use Rattle.std.specs.Option.{option_or}
use Rattle.prima_base.specs.declared.value.Value.{Value}
use Rattle.cond_expr.specs.declared.expr.CmpOp.{CmpOp}
use Rattle.cond_expr.specs.declared.expr.Column.{Column}
use Rattle.cond_expr.specs.Comparisons.{turned_op, same_way}
use Rattle.cond_expr.specs.Trees.{Tree, column, constant, length_of, joined, choose, Test, never}
use Rattle.cond_expr.specs.Trees.{always, compared, all_of, some_of, fails}
use Rattle.cond_expr.specs.Parts.{parts}
use Rattle.cond_expr.specs.Rows.{names}

-- the tree is this column
abbrev pub is_column : Column → Tree → Bool
is_column c (column w n) = names w n c
is_column c (constant v) = false
is_column c (length_of t) = false
is_column c (joined ts) = false
is_column c (choose d a b) = false

abbrev pub constant_of : Tree → Option Value
constant_of (column w n) = None
constant_of (constant v) = Some v
constant_of (length_of t) = None
constant_of (joined ts) = None
constant_of (choose d a b) = None

-- the constant with which the part compares the column in this way; it may stand on either side
abbrev pub pinned_by : CmpOp → Column → Test → Option Value
pinned_by o c never = None
pinned_by o c always = None
pinned_by o c (compared p a b) = option_or (cond (same_way o p && is_column c a) (constant_of b)
    None) (cond (same_way o (turned_op p) && is_column c b) (constant_of a) None)
pinned_by o c (all_of cs) = None
pinned_by o c (some_of cs) = None
pinned_by o c (fails d) = None

abbrev pub first_pinned : CmpOp → Column → List Test → Option Value
first_pinned o c [] = None
first_pinned o c (t ∷ ts) = option_or (pinned_by o c t) (first_pinned o c ts)

-- that of the first top-level part that has one
abbrev pub pinned : CmpOp → Column → Test → Option Value
pinned o c t = first_pinned o c (parts t)
