-- The order of rows that suits a level, what is kept of a run of rows beside these, and the rows of
-- several runs.
use Rattle.std.specs.Prelude.{◌≡◌, ℕ, ◌-◌, ◌<◌, ◌≤◌, ◌++◌, ◌==◌, Bool, true, List, [], ◌∷◌, length}
use Rattle.std.specs.Prelude.{get_or}
use Rattle.std.specs.Int.{w64, leading_zeros}
use Rattle.std.specs.List.{flat_map}
use Rattle.std.specs.Ordering.{nat_cmp, ordering_then}
use Rattle.std.specs.declared.cmp.Ordering.{Ordering}
use Rattle.relations_spec.specs.Sets.{In}
use Rattle.relations_spec.specs.Spans.{Span}
use Rattle.prima_base.specs.declared.timed_row.TimedRow.{TimedRow}
use Rattle.join_exec_levels.specs.declared.group.Run.TheInside.{Inside}

-- the magnitude of a period: how many of 64 bits are before the first that its length sets, so that
-- a longer one has a lower
abbrev pub magnitude : Span → ℕ
magnitude period = leading_zeros w64 (period.end - period.start)

-- the period is of the magnitude of the first of the rows, where there is one
abbrev pub is_of_run : Span → List TimedRow → Bool
is_of_run period [] = true
is_of_run period (t ∷ ts) = magnitude t.period == magnitude period

-- rows by the magnitudes of their periods, and those of one magnitude by their starts
abbrev pub turn_cmp : TimedRow → TimedRow → Ordering
turn_cmp t u = ordering_then (nat_cmp (magnitude t.period) (magnitude u.period))
    (nat_cmp t.period.start u.period.start)

-- no row ends later than the number beside it, or beside one after it
abbrev pub EndBy : List TimedRow → List ℕ → Type 0
EndBy rows ends = (i j : ℕ) (d : TimedRow) → j ≤ i → i < length rows
    → (get_or rows j d).period.end ≤ get_or ends i 0

-- no row starts earlier than one before it
abbrev pub AreInTurn : List TimedRow → Type 0
AreInTurn rows = (i j : ℕ) (d : TimedRow) → i ≤ j → j < length rows
    → (get_or rows i d).period.start ≤ (get_or rows j d).period.start

pub record IsRun (g : Inside) : Type 0 where
  pub count : length g.ends.items ≡ length g.rows.items
  pub ends : EndBy g.rows.items g.ends.items
  pub turn : g.in_turn ≡ true → AreInTurn g.rows.items

-- a piece of the rows with all that have a moment of the period: those before it have ended when
-- the period starts, and those after it start when it has ended
pub record IsNear (period : Span) (rows piece : List TimedRow) : Type 0 where
  pub before : List TimedRow
  pub after : List TimedRow
  pub is : rows ≡ before ++ (piece ++ after)
  pub ended : (t : TimedRow) → In t before → t.period.end ≤ period.start
  pub later : (t : TimedRow) → In t after → period.end ≤ t.period.start

-- the rows of one run after those of the other
abbrev pub rows_of_runs : List (List TimedRow) → List TimedRow
rows_of_runs runs = flat_map (λ (run : List TimedRow). run) runs
