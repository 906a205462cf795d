-- Lists of rows with periods, as they are at a moment.
use Rattle.std.specs.Prelude.{◌≡◌, ℕ, List, [], ◌∷◌, ◌++◌, map}
use Rattle.relations_spec.specs.Timed.{held_at}
use Rattle.prima_base.specs.declared.value.Value.{Value}
use Rattle.prima_base.specs.Timed.{entries_of, rows_at}
use Rattle.cond_expr.specs.declared.expr.Column.{Column}
use Rattle.join_exec_spec.specs.BorrowedOutputs.{BorrowedValues, RowsBorrow}
use Rattle.join_exec_levels.specs.declared.source.Source.{Source}

-- the rows that a list holds at a moment, and that each of several lists holds
abbrev pub held : Source → ℕ → List (List Value)
held s m = held_at (entries_of s.rows.items) m

abbrev pub held_of : List Source → ℕ → List (List (List Value))
held_of sources m = map (λ (s : Source). held s m) sources

-- the relation of each of several lists at a moment
abbrev pub relations_of : List Source → ℕ → List (List (List Value))
relations_of sources m = map (λ (s : Source). rows_at s.rows.items m) sources

-- the rows of each list have these values of its columns borrowed; the columns are these, one
-- list's after the other's
abbrev pub SourcesBorrow : BorrowedValues → List Column → List Source → Type 0
SourcesBorrow which columns [] = columns ≡ []
SourcesBorrow which columns (s ∷ sources) = (own : List Column) × (rest : List Column)
    × (columns ≡ own ++ rest) × RowsBorrow which own s.rows.items × SourcesBorrow which rest sources
