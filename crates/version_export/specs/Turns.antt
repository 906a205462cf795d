-- What begins and what ends, as one list: each turn is a change at a moment.
use Rattle.std.specs.Prelude.{ℕ, ◌==◌, ◌≤◌, ◌++◌, Bool, cond, List, [], ◌∷◌, map, ⊤}
use Rattle.std.specs.List.{filter, flat_map}
use Rattle.std.specs.Ordering.{nat_cmp}
use Rattle.relations_spec.specs.Sets.{set_of}
use Rattle.relations_spec.specs.Timed.{Entry}
use Rattle.smo_ops_types.specs.Changes.{PlainChange}
use Rattle.smo_ops_types.specs.Commands.{PlainCommand}
use Rattle.smo_ops_spec.specs.OneRow.{Row}
use Rattle.version_export_past_spec.specs.Rows.{ending, beginning}
use Rattle.version_export_past_spec.specs.Commands.{if_any}
use Rattle.version_export.specs.ByListings.{Listed, is_later}
use Rattle.version_export.specs.RowTexts.{shown_row}
use Rattle.version_export.specs.declared.row_turn.RowTurn.{RowTurn}

abbrev pub Turn : Type 0
Turn = ℕ × PlainChange

abbrev pub moments_of : List Turn → List ℕ
moments_of turns = map (λ (t : Turn). t.0) turns

-- the changes of one moment, in their order
abbrev pub changes_at : ℕ → List Turn → List PlainChange
changes_at m turns = map (λ (t : Turn). t.1) (filter (λ (t : Turn). t.0 == m) turns)

-- one command for each moment of a turn, ascending
abbrev pub commands_of : List Turn → List PlainCommand
commands_of turns = flat_map (λ m. if_any m (changes_at m turns))
    (set_of nat_cmp (moments_of turns))

-- the turns of a table: what ends, and then what begins
abbrev pub end_turns : Listed → List Turn
end_turns l = map (λ (e : Entry Row). (e.period.end, ending l.0 e.item)) l.1

abbrev pub start_turns : Listed → List Turn
start_turns l = map (λ (e : Entry Row). (e.period.start, beginning l.0 e.item)) l.1

abbrev pub table_turns : Listed → List Turn
table_turns l = end_turns l ++ start_turns l

-- those of all tables, after version 1 and before the end of time
abbrev pub later_turns : ℕ → List Turn → List Turn
later_turns first turns = filter (λ (t : Turn). is_later first t.0) turns

abbrev pub turns_of : ℕ → List Listed → List Turn
turns_of first listed = later_turns first (flat_map table_turns listed)

-- what a turn of a row means
abbrev pub change_of : RowTurn → PlainChange
change_of t = cond t.begins (beginning t.table.now (shown_row t.values.now))
    (ending t.table.now (shown_row t.values.now))

abbrev pub turn_of : RowTurn → Turn
turn_of t = (t.moment, change_of t)

-- by what it is put in its place
abbrev pub moment_of : RowTurn → ℕ
moment_of t = t.moment

-- the moments never fall
abbrev pub Rises : ℕ → List RowTurn → Type 0
Rises low [] = ⊤
Rises low (t ∷ turns) = (low ≤ t.moment) × Rises t.moment turns

abbrev pub is_of : ℕ → RowTurn → Bool
is_of m t = t.moment == m
