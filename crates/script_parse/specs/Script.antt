-- A script as its statements, each ended by a `;` that stands neither in a text literal nor in a
-- comment, and what stands after the last.
use Rattle.std.specs.Prelude.{ℕ, List, [], ◌∷◌, ◌++◌, ◌==◌, ◌&&◌, ◌||◌, Bool, true, false, nat_lt}
use Rattle.std.specs.Prelude.{length, map, if◌then◌else◌}
use Rattle.lexer_spec.specs.Bytes.{is_blank}
use Rattle.prima_base.specs.Limits.{max_statement}
use Rattle.script_parse.specs.declared.mode.Mode.{Mode}
use Rattle.script_parse.specs.declared.mode.Mode.TheVariants.{Plain, Dash, Quoted, Comment}
use Rattle.script_parse.specs.declared.splitter.Tail.{Tail}
use Rattle.script_parse.specs.declared.splitter.Tail.TheVariants.{Clean, Unfinished, TooLong}

-- where a byte leaves a script: a quote (39) opens a text literal and closes it, so a doubled one
-- closes it and opens it again; two dashes (45) outside one open a comment, which ends at the next
-- LF (10)
abbrev pub next : Mode → ℕ → Mode
next Plain b = if b == 39 then Quoted else (if b == 45 then Dash else Plain)
next Dash b = if b == 39 then Quoted else (if b == 45 then Comment else Plain)
next Quoted b = if b == 39 then Plain else Quoted
next Comment b = if b == 10 then Plain else Comment

-- the byte is a `;` (59) outside texts and comments
abbrev pub is_end : Mode → ℕ → Bool
is_end Plain b = b == 59
is_end Dash b = b == 59
is_end Quoted b = false
is_end Comment b = false

-- where the bytes leave a script
abbrev pub mode_after : Mode → List ℕ → Mode
mode_after mode [] = mode
mode_after mode (b ∷ bytes) = mode_after (next mode b) bytes

-- the statements of `bytes`, after `current` of the first one, which leave the script in `mode`
abbrev pub statements_from : Mode → List ℕ → List ℕ → List (List ℕ)
statements_from mode current [] = []
statements_from mode current (b ∷ bytes) = if is_end mode b
    then current ∷ statements_from Plain [] bytes
    else statements_from (next mode b) (current ++ b ∷ []) bytes

-- what stands after the last `;`
abbrev pub tail_from : Mode → List ℕ → List ℕ → List ℕ
tail_from mode current [] = current
tail_from mode current (b ∷ bytes) = if is_end mode b then tail_from Plain [] bytes
    else tail_from (next mode b) (current ++ b ∷ []) bytes

abbrev pub statements_of : List ℕ → List (List ℕ)
statements_of script = statements_from Plain [] script

abbrev pub tail_of : List ℕ → List ℕ
tail_of script = tail_from Plain [] script

abbrev pub is_too_long : List ℕ → Bool
is_too_long statement = nat_lt max_statement (length statement)

-- what is handed on of a statement: its bytes, or that it is too long
pub data StatementPart : Type 0 where
  Whole : List ℕ → StatementPart
  Skipped : StatementPart

abbrev pub part_of : List ℕ → StatementPart
part_of statement = if is_too_long statement then Skipped else Whole statement

abbrev pub parts_from : Mode → List ℕ → List ℕ → List StatementPart
parts_from mode current bytes = map part_of (statements_from mode current bytes)

-- the byte is a blank, or belongs to a comment if a second dash comes after a first
abbrev pub is_quiet : Mode → ℕ → Bool
is_quiet Plain b = is_blank b || b == 45
is_quiet Dash b = b == 45
is_quiet Quoted b = false
is_quiet Comment b = true

abbrev pub all_quiet : Mode → List ℕ → Bool
all_quiet mode [] = true
all_quiet mode (b ∷ bytes) = is_quiet mode b && all_quiet (next mode b) bytes

-- no dash is left alone, and no text is open
abbrev pub is_settled : Mode → Bool
is_settled Plain = true
is_settled Dash = false
is_settled Quoted = false
is_settled Comment = true

-- blanks and comments alone
abbrev pub is_clean : List ℕ → Bool
is_clean tail = all_quiet Plain tail && is_settled (mode_after Plain tail)

-- what a script's end finds after the last `;`
abbrev pub ending : List ℕ → Tail
ending tail = if is_too_long tail then TooLong else (if is_clean tail then Clean else Unfinished)
