-- The lines of what sessions are answered, and of their open cursors, by their bytes.
use Rattle.std.specs.Prelude.{ℕ, List, ◌++◌, length, codes, decimal}
use Rattle.std.specs.List.{flat_map}
use Rattle.answer_text.specs.Texts.{count_text}

-- a word and a number after `ok`
abbrev pub ok_text : List ℕ → ℕ → List ℕ
ok_text word n = codes "ok " ++ word ++ codes " " ++ decimal n ++ codes "\n"

-- a transaction began, and this is the newest version
unfoldable pub begun_text : ℕ → List ℕ
begun_text version = ok_text (codes "begin") version

-- so many changes a transaction now has
unfoldable pub buffered_text : ℕ → List ℕ
buffered_text count = ok_text (codes "buffered") count

-- a transaction ended in which nothing was changed
unfoldable pub empty_text : List ℕ
empty_text = codes "ok empty\n"

-- a transaction ended without a command
unfoldable pub aborted_text : List ℕ
aborted_text = codes "ok abort\n"

-- a cursor was opened, whose answer has so many entries
unfoldable pub opened_text : ℕ → List ℕ
opened_text count = ok_text (codes "open") count

unfoldable pub closed_text : List ℕ
closed_text = codes "ok close\n"

-- an open cursor: its session and its name, and how many entries were fetched of how many
unfoldable pub cursor_text : ℕ → List ℕ → ℕ → ℕ → List ℕ
cursor_text session name fetched total = codes "cursor " ++ decimal session ++ codes " " ++ name
    ++ codes " " ++ decimal fetched ++ codes " " ++ decimal total ++ codes "\n"

abbrev pub line_of_cursor : ℕ × List ℕ × ℕ × ℕ → List ℕ
line_of_cursor c = cursor_text c.0 c.1 c.2 c.3

-- open cursors, a line each, and then how many they are
unfoldable pub cursors_text : List (ℕ × List ℕ × ℕ × ℕ) → List ℕ
cursors_text cursors = flat_map line_of_cursor cursors ++ count_text (length cursors)
