-- The statements of the sample script, by its size.
use Rattle.std.specs.Prelude.{ℕ, ◌+◌, ◌-◌, ◌%◌, ◌==◌, Bool, List, [], ◌∷◌, ◌++◌, map, filter, codes}
use Rattle.std.specs.Prelude.{decimal, if◌then◌else◌}
use Rattle.std.specs.List.{concat, range_with_len}

-- the numbers from one up to, and not at, another
abbrev pub numbers : ℕ → ℕ → List ℕ
numbers from to = range_with_len from (to - from)

-- a command of this moment
unfoldable pub stamp : ℕ → List ℕ
stamp moment = codes "AT " ++ decimal moment ++ codes " "

abbrev pub stamped : ℕ → List ℕ → List ℕ
stamped moment does = stamp moment ++ does

-- ---- the moments: of the first row, of the first operator after the rows, of the first update,
-- and of the first new title

abbrev pub first_row_at : ℕ
first_row_at = 10

abbrev pub evolved_at : ℕ → ℕ
evolved_at size = first_row_at + size

abbrev pub updated_at : ℕ → ℕ
updated_at size = evolved_at size + 4

abbrev pub retitled_at : ℕ → ℕ
retitled_at size = updated_at size + size

-- ---- the rows of one table

abbrev pub page_made : List ℕ
page_made = codes "AT 1 EVOLVE CREATE TABLE page (id INT, title TEXT, kind INT)"

unfoldable pub row_prefix : List ℕ
row_prefix = codes "INSERT INTO page (id, title, kind) VALUES ("

-- row i has the title pi, and one of four kinds
abbrev pub row_given : ℕ → List ℕ
row_given i = row_prefix ++ (decimal i ++ (codes ", 'p"
    ++ (decimal i ++ (codes "', " ++ (decimal (i % 4) ++ codes ")")))))

abbrev pub page_inserted : ℕ → List ℕ
page_inserted i = stamped (first_row_at + i) (row_given i)

-- ---- which is then given a column and split twice, the second time by columns

abbrev pub state_added : ℕ → List ℕ
state_added size = stamped (evolved_at size) (codes
    "EVOLVE ADD COLUMN state AS 'new' INTO page INVERSE DROP COLUMN state FROM page")

abbrev pub pages_split : ℕ → List ℕ
pages_split size = stamped (evolved_at size + 1)
    (codes "EVOLVE PARTITION TABLE page INTO hot WITH kind = 0, cold "
    ++ codes "INVERSE MERGE TABLE hot, cold INTO page")

abbrev pub title_renamed : ℕ → List ℕ
title_renamed size = stamped (evolved_at size + 2)
    (codes "EVOLVE RENAME COLUMN title IN hot TO name INVERSE RENAME COLUMN name IN hot TO title")

abbrev pub cold_split : ℕ → List ℕ
cold_split size = stamped (evolved_at size + 3)
    (codes "EVOLVE DECOMPOSE TABLE cold INTO cold_id (id, kind, state), cold_title (id, title) "
    ++ codes "INVERSE JOIN TABLE cold_id, cold_title INTO cold WHERE TRUE")

-- ---- the rows of kind 0 are updated, each by its number

abbrev pub is_hot : ℕ → Bool
is_hot i = (i % 4) == 0

abbrev pub state_set : ℕ → List ℕ
state_set i = codes "UPDATE hot SET state = 'old' WHERE id = " ++ decimal i

abbrev pub hot_updated : ℕ → ℕ → List ℕ
hot_updated size i = stamped (updated_at size + i) (state_set i)

-- ---- the archive is stored as a whole

abbrev pub checkpoint_made : List ℕ
checkpoint_made = codes "CHECKPOINT"

-- ---- a table is renamed so many times

abbrev pub titles : ℕ
titles = 35

-- its name after j of them
abbrev pub title_table : ℕ → List ℕ
title_table j = if j == 0 then codes "cold_title" else codes "title_" ++ decimal j

-- from its name after j of them to that after k
unfoldable pub renaming : ℕ → ℕ → List ℕ
renaming j k = codes "RENAME TABLE " ++ (title_table j ++ (codes " INTO " ++ title_table k))

abbrev pub title_given : ℕ → List ℕ
title_given j = codes "EVOLVE " ++ (renaming j (j + 1) ++ (codes " INVERSE " ++ renaming (j + 1) j))

abbrev pub retitled : ℕ → ℕ → List ℕ
retitled size j = stamped (retitled_at size + j) (title_given j)

-- ---- queries

abbrev pub pages_asked : List ℕ
pages_asked = codes "QUERY VERSION 1 SELECT id FROM page"

abbrev pub hot_then_asked : ℕ → List ℕ
hot_then_asked size = codes "QUERY VERSION 5 SELECT id, state FROM hot AS OF "
    ++ decimal (retitled_at size + 34)

abbrev pub hot_asked : List ℕ
hot_asked = codes "QUERY VERSION 5 SELECT id, state FROM hot"

abbrev pub kind_asked : List ℕ
kind_asked = codes "QUERY VERSION 2 SELECT id, title FROM page WHERE kind = 1"

abbrev pub titles_asked : List ℕ
titles_asked = codes "QUERY VERSION 40 SELECT id, title FROM title_35"

-- ---- the script

abbrev pub questions : ℕ → List (List ℕ)
questions size = pages_asked ∷ hot_then_asked size ∷ hot_asked ∷ kind_asked ∷ titles_asked ∷ []

abbrev pub retitlings : ℕ → List (List ℕ)
retitlings size = map (retitled size) (numbers 0 titles)

abbrev pub updates : ℕ → List (List ℕ)
updates size = map (hot_updated size) (filter is_hot (numbers 0 size))

abbrev pub evolutions : ℕ → List (List ℕ)
evolutions size = state_added size ∷ pages_split size ∷ title_renamed size ∷ cold_split size ∷ []

abbrev pub insertions : ℕ → List (List ℕ)
insertions size = map page_inserted (numbers 0 size)

abbrev pub sample_statements : ℕ → List (List ℕ)
sample_statements size = page_made ∷ (insertions size
    ++ (evolutions size ++ (updates size ++ checkpoint_made ∷ (retitlings size ++ questions size))))

-- each on a line of its own
abbrev pub line_of : List ℕ → List ℕ
line_of statement = statement ++ codes ";\n"

abbrev pub sample_lines : ℕ → List (List ℕ)
sample_lines size = map line_of (sample_statements size)

abbrev pub sample_script : ℕ → List ℕ
sample_script size = concat (sample_lines size)
