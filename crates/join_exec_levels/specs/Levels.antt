-- Lists joined level by level: the rows beside each choice of the levels before.
use Rattle.std.specs.Prelude.{◌≡◌, List, [], ◌∷◌, ◌++◌, ⊤}
use Rattle.std.specs.List.{flat_map}
use Rattle.std.specs.BTreeMap.{get}
use Rattle.relations_spec.specs.Timed.{Entry}
use Rattle.prima_base.specs.declared.value.Value.{Value}
use Rattle.prima_base.specs.declared.timed_row.TimedRow.{TimedRow}
use Rattle.prima_base.specs.Order.{row_cmp}
use Rattle.prima_base.specs.Timed.{entries_of}
use Rattle.cond_expr.specs.declared.expr.Column.{Column}
use Rattle.join_exec_spec.specs.Choosing.{paired}
use Rattle.join_exec_spec.specs.Keeping.{values_at, passing, in_group, borrowed_tests, AllValid}
use Rattle.join_exec_spec.specs.BorrowedOutputs.{BorrowedValues, RowsBorrow}
use Rattle.join_exec_levels.specs.declared.level.Level.{Level}

-- the rows of the level that have this key
abbrev pub with_key : Level → List Value → List TimedRow
with_key level key = in_group (get row_cmp level.groups key)

-- a choice with each row of the level after that has its key and passes the tests, in their common
-- moments
abbrev pub made_beside : List Column → Level → Entry (List Value) → List (Entry (List Value))
made_beside columns level p = flat_map (paired (passing columns (borrowed_tests level.tests.items))
    p) (entries_of (with_key level (values_at level.own.items p.item)))

-- the same of each choice, and of each level after the other
abbrev pub made_on : List Column → Level → List (Entry (List Value)) → List (Entry (List Value))
made_on columns level ps = flat_map (made_beside columns level) ps

abbrev pub made_through : List Column → List Level → List (Entry (List Value))
    → List (Entry (List Value))
made_through columns [] ps = ps
made_through columns (level ∷ levels) ps = made_through columns levels (made_on columns level ps)

-- each value of a level is valid
abbrev pub IsValidLevel : Level → Type 0
IsValidLevel level = (key : List Value) → AllValid (entries_of (with_key level key))

abbrev pub AreValidLevels : List Level → Type 0
AreValidLevels [] = ⊤
AreValidLevels (level ∷ levels) = IsValidLevel level × AreValidLevels levels

-- the rows of a level have these values of its columns borrowed
abbrev pub LevelBorrows : BorrowedValues → List Column → Level → Type 0
LevelBorrows which columns level = (key : List Value)
    → RowsBorrow which columns (with_key level key)

-- and so do those of each level, whose columns are these, one level's after the other's
abbrev pub LevelsBorrow : BorrowedValues → List Column → List Level → Type 0
LevelsBorrow which columns [] = columns ≡ []
LevelsBorrow which columns (level ∷ levels) = (own : List Column) × (rest : List Column)
    × (columns ≡ own ++ rest) × LevelBorrows which own level × LevelsBorrow which rest levels
