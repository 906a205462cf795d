-- Values of columns that are borrowed, and outputs over them that stay borrowed.
use Rattle.std.specs.Prelude.{◌≡◌, ℕ, Bool, true, false, not, ◌&&◌, List, [], ◌∷◌, ⊤}
use Rattle.prima_base.specs.declared.value.Value.{Value}
use Rattle.prima_base.specs.declared.value.Val.{Val}
use Rattle.prima_base.specs.declared.timed_row.TimedRow.{TimedRow}
use Rattle.prima_base.specs.Order.{IsBorrowed, shown, value_eq}
use Rattle.cond_expr.specs.declared.expr.Whose.{Whose}
use Rattle.cond_expr.specs.declared.expr.Whose.TheVariants.{Atom}
use Rattle.cond_expr.specs.declared.expr.Column.{Column}
use Rattle.cond_expr.specs.Trees.{Tree, column, constant, length_of, joined, choose}
use Rattle.cond_expr.specs.Rows.{AreBorrowed}

-- the values of each row are so
abbrev pub EachRow : (List Val → Type 0) → List TimedRow → Type 0
EachRow so [] = ⊤
EachRow so (row ∷ rows) = so row.values.items × EachRow so rows

-- each value of each row is borrowed
abbrev pub AllBorrowed : List TimedRow → Type 0
AllBorrowed rows = EachRow AreBorrowed rows

-- which values of columns are borrowed, by what a reference to the column says and what they show
abbrev pub BorrowedValues : Type 0
BorrowedValues = Whose → List ℕ → Value → Bool

-- all are
abbrev pub all_values : BorrowedValues
all_values w n x = true

-- the value of each column is borrowed where it is one of these, in a row and in each of several
abbrev pub RowBorrows : BorrowedValues → List Column → List Val → Type 0
RowBorrows which [] [] = ⊤
RowBorrows which [] (v ∷ values) = ⊥
RowBorrows which (c ∷ columns) [] = ⊥
RowBorrows which (c ∷ columns) (v ∷ values) =
    (which (Atom c.atom) c.name (shown v) ≡ true → IsBorrowed v) × RowBorrows which columns values

abbrev pub RowsBorrow : BorrowedValues → List Column → List TimedRow → Type 0
RowsBorrow which columns rows = EachRow (RowBorrows which columns) rows

-- where an output has this value, it has it of such a column: it is one, or a CASE that chooses
-- either way one or a constant that is another value, and nothing is computed of it
abbrev pub is_borrowed_output : BorrowedValues → Value → Tree → Bool
is_borrowed_output which v (column w n) = which w n v
is_borrowed_output which v (constant c) = not (value_eq c v)
is_borrowed_output which v (length_of t) = false
is_borrowed_output which v (joined ts) = false
is_borrowed_output which v (choose c a b) =
    is_borrowed_output which v a && is_borrowed_output which v b

-- where it has this value, it has it of a column
abbrev pub is_plain : Value → Tree → Bool
is_plain v t = is_borrowed_output all_values v t

-- the value of each output that is one of these is borrowed, in a row of the outputs and in several
abbrev pub StaysBorrowed : BorrowedValues → List Tree → List Val → Type 0
StaysBorrowed which [] [] = ⊤
StaysBorrowed which [] (v ∷ values) = ⊥
StaysBorrowed which (t ∷ outs) [] = ⊥
StaysBorrowed which (t ∷ outs) (v ∷ values) =
    (is_borrowed_output which (shown v) t ≡ true → IsBorrowed v)
    × StaysBorrowed which outs values

abbrev pub AllStayBorrowed : BorrowedValues → List Tree → List TimedRow → Type 0
AllStayBorrowed which outs rows = EachRow (StaysBorrowed which outs) rows
