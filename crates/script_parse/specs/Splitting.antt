-- What a splitter knows of the statement that it is in.
use Rattle.std.specs.Prelude.{◌≡◌, ℕ, ◌+◌, ◌-◌, ◌<◌, ◌≤◌, List, [], ◌∷◌, ◌++◌, Bool, false, length}
use Rattle.std.specs.Prelude.{drop, if◌then◌else◌}
use Rattle.prima_base.specs.Limits.{max_statement}
use Rattle.script_parse.specs.Script.{next, mode_after, all_quiet, is_too_long, StatementPart}
use Rattle.script_parse.specs.Script.{Whole, Skipped}
use Rattle.script_parse.specs.declared.mode.Mode.{Mode}
use Rattle.script_parse.specs.declared.mode.Mode.TheVariants.{Plain}
use Rattle.script_parse.specs.declared.splitter.Cut.{Cut}
use Rattle.script_parse.specs.declared.splitter.Cut.TheVariants.{More, Text, TooLong}

-- the bytes of the current statement, of a too long one only so many as show it; where they leave
-- the script; and whether memory ran out
pub record State : Type 0 where
  pub mode : Mode
  pub kept : List ℕ
  pub spent : Bool

abbrev pub fresh : State
fresh = record { mode = Plain; kept = []; spent = false }

-- one byte of a statement more
abbrev pub keep : List ℕ → ℕ → List ℕ
keep kept byte = if is_too_long kept then kept else kept ++ byte ∷ []

-- a byte that ends no statement
abbrev pub step : State → ℕ → State
step state byte = record {
  mode = next state.mode byte;
  kept = keep state.kept byte;
  spent =
      state.spent;
}

-- what is kept of a statement that is not too long leaves the script in `mode`, and is `quiet` or
-- not
pub record IsTracked (mode : Mode) (kept : List ℕ) (quiet : Bool) : Type 0 where
  pub short : length kept ≤ max_statement + 1
  pub mode_is : is_too_long kept ≡ false → mode ≡ mode_after Plain kept
  pub quiet_is : is_too_long kept ≡ false → quiet ≡ all_quiet Plain kept

-- the statement that a cut hands on
abbrev pub found : Cut → List StatementPart
found More = []
found (Text statement) = Whole statement.items ∷ []
found TooLong = Skipped ∷ []

-- the last of the bytes
abbrev pub IsEndOf : List ℕ → List ℕ → Type 0
IsEndOf rest bytes = rest ≡ drop (length bytes - length rest) bytes

-- with no cut all bytes were taken, and after one the next statement begins
abbrev pub IsSettled : Cut → List ℕ → State → Type 0
IsSettled More rest state = rest ≡ []
IsSettled (Text statement) rest state = state ≡ fresh
IsSettled TooLong rest state = state ≡ fresh

-- after a cut fewer bytes are left
abbrev pub IsFewer : Cut → List ℕ → List ℕ → Type 0
IsFewer More rest bytes = Unit {0}
IsFewer (Text statement) rest bytes = length rest < length bytes
IsFewer TooLong rest bytes = length rest < length bytes

-- a statement that is handed on is not too long
abbrev pub IsWithin : Cut → Type 0
IsWithin More = Unit {0}
IsWithin (Text statement) = length statement.items ≤ max_statement
IsWithin TooLong = Unit {0}
