-- What is told of the replies to a sample script.
use Rattle.std.specs.Prelude.{ℕ, ◌==◌, Bool, List, [], ◌∷◌, ◌++◌, filter, length, codes, decimal}
use Rattle.std.specs.Prelude.{nat_eq, if◌then◌else◌}
use Rattle.std.specs.List.{concat, starts_with}

-- the lines of a text, each with its line feed (10), after the prefix of a line; what stands after
-- the last is none
abbrev pub lines_after : List ℕ → List ℕ → List (List ℕ)
lines_after prefix [] = []
lines_after prefix (byte ∷ bytes) =
    if byte == 10 then (prefix ++ byte ∷ []) ∷ lines_after [] bytes
    else lines_after (prefix ++ byte ∷ []) bytes

abbrev pub lines : List ℕ → List (List ℕ)
lines text = lines_after [] text

-- the line is of an error
abbrev pub is_error_line : List ℕ → Bool
is_error_line line = starts_with nat_eq line (codes "error ")

abbrev pub is_end : List ℕ → Bool
is_end line = starts_with nat_eq line (codes "end ")

abbrev pub error_count : List (List ℕ) → ℕ
error_count lines = length (filter is_error_line lines)

abbrev pub end_lines : List (List ℕ) → List ℕ
end_lines lines = concat (filter is_end lines)

-- the size, the commands of the history after the script, how many replies are refusals, and the
-- lines that count answers
abbrev pub summary_with : ℕ → ℕ → ℕ → List ℕ → List ℕ
summary_with size commands errors ends =
    codes "sample " ++ (decimal size ++ (codes "\ncommands "
    ++ (decimal commands ++ (codes "\nerrors " ++ (decimal errors ++ (codes "\n" ++ ends))))))

abbrev pub summary : ℕ → ℕ → List ℕ → List ℕ
summary size commands replies = summary_with size commands (error_count (lines replies))
    (end_lines (lines replies))
