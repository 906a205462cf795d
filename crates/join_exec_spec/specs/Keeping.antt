-- Which rows are kept beside a choice: those that agree with it on some places, and with which it
-- passes some tests.
use Rattle.std.specs.Prelude.{◌≡◌, ℕ, Bool, true, false, ◌&&◌, List, [], ◌∷◌, ◌++◌, map, length}
use Rattle.std.specs.Prelude.{get_or, pos, Option, Some, None, ⊤}
use Rattle.relations_spec.specs.Timed.{Entry}
use Rattle.prima_base.specs.declared.timed_row.TimedRow.{TimedRow}
use Rattle.std.specs.Ordering.{is_eq}
use Rattle.prima_base.specs.declared.value.Value.{Value}
use Rattle.prima_base.specs.declared.value.Value.TheVariants.{Int}
use Rattle.prima_base.specs.declared.value.Val.{Val}
use Rattle.prima_base.specs.Order.{row_cmp, is_borrowed}
use Rattle.prima_base.specs.Columns.{IsValid}
use Rattle.relations_spec.specs.Sets.{In}
use Rattle.std.specs.Borrow.{Bor}
use Rattle.cond_expr.specs.declared.expr.Cond.{Cond}
use Rattle.cond_expr.specs.Seen.{test}
use Rattle.cond_expr.specs.declared.expr.Column.{Column}
use Rattle.cond_expr.specs.Trees.{Test}
use Rattle.cond_expr.specs.Values.{truth}
use Rattle.cond_expr.specs.Rows.{cells}

-- the value at a place
abbrev pub value_at : List Value → ℕ → Value
value_at values i = get_or values i (Int (pos 0))

-- the values at some places
abbrev pub values_at : List ℕ → List Value → List Value
values_at places values = map (value_at values) places

-- whether the value at a place is a text that lies elsewhere
abbrev pub lies_at : List Val → ℕ → Bool
lies_at values i = get_or (map is_borrowed values) i false

-- the row meets the condition, and each of some conditions
abbrev pub meets : List Column → Test → List Value → Bool
meets columns c row = truth (cells columns row) c

abbrev pub meets_all : List Column → List Test → List Value → Bool
meets_all columns [] row = true
meets_all columns (c ∷ cs) row = meets columns c row && meets_all columns cs row

-- what meets all the conditions, with any further columns after, meets these with the first columns
-- alone
abbrev pub AreOwnParts : List Column → List Test → List Test → Type 0
AreOwnParts columns conds own = (rest : List Column) (row more : List Value)
    → length row ≡ length columns → meets_all (columns ++ rest) conds (row ++ more) ≡ true
    → meets_all columns own row ≡ true

-- the row agrees with a choice: it has at these places what the choice has at those
abbrev pub agrees : List ℕ → List ℕ → List Value → List Value → Bool
agrees own other p y = is_eq (row_cmp (values_at other y) (values_at own p))

-- the two together pass the tests
abbrev pub passing : List Column → List Test → List Value → List Value → Bool
passing columns tests p y = meets_all columns tests (p ++ y)

abbrev pub kept : List Column → List ℕ → List ℕ → List Test → List Value → List Value → Bool
kept columns own other tests p y = agrees own other p y && passing columns tests p y

-- the rows of a group, and none where there is no such group
abbrev pub in_group : Option (List TimedRow) → List TimedRow
in_group None = []
in_group (Some rows) = rows

-- each value is valid, of a row and of the rows of entries
abbrev pub IsValidRow : List Value → Type 0
IsValidRow [] = ⊤
IsValidRow (v ∷ row) = IsValid v × IsValidRow row

abbrev pub AllValid : List (Entry (List Value)) → Type 0
AllValid entries = (e : Entry (List Value)) → In e entries → IsValidRow e.item

-- the conditions that are borrowed
abbrev pub borrowed_tests : List (Bor Cond) → List Test
borrowed_tests conds = map (λ (c : Bor Cond). test c.now) conds
