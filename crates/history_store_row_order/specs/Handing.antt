-- Which rows are lost and gained, and the ids that the gained ones get.
use Rattle.std.specs.Prelude.{ℕ, ◌+◌, List, [], ◌∷◌, if◌then◌else◌, Option, Some, None}
use Rattle.std.specs.Ordering.{is_eq}
use Rattle.std.specs.declared.cmp.Ordering.{Ordering}
use Rattle.std.specs.declared.cmp.Ordering.TheVariants.{Less}
use Rattle.prima_base.specs.Order.{row_cmp}
use Rattle.prima_base.specs.declared.value.Value.{Value}
use Rattle.history_store_columns.specs.Log.{Write}
use Rattle.history_store_row_order.specs.Rows.{row_now}
use Rattle.relations_spec.specs.Sets.{has}

-- the ids of the gained rows: the lost ids in turn, then new ones from `next` on
abbrev pub handed : List ℕ → ℕ → List (List Value) → List ℕ
handed lost next [] = []
handed [] next (row ∷ rows) = next ∷ handed [] (next + 1) rows
handed (id ∷ lost) next (row ∷ rows) = id ∷ handed lost next rows

-- the rows that are not among the others
abbrev pub only_in : List (List Value) → List (List Value) → List (List Value)
only_in [] others = []
only_in (row ∷ rows) others = if has row_cmp row others then only_in rows others
    else row ∷ only_in rows others

-- the ids whose rows are not among the others
abbrev pub lost_ids : List (List Write) → List ℕ → List (List Value) → List ℕ
lost_ids columns [] others = []
lost_ids columns (id ∷ ids) others = if has row_cmp (row_now id columns) others
    then lost_ids columns ids others else id ∷ lost_ids columns ids others

-- how a row compares with the first of these; before the end
abbrev pub first_order : List Value → List (List Value) → Ordering
first_order row [] = Less
first_order row (r ∷ rows) = row_cmp row r

-- the first id whose newest row this is
abbrev pub found : List (List Write) → List Value → List ℕ → List ℕ
found columns row [] = []
found columns row (id ∷ ids) = if is_eq (row_cmp (row_now id columns) row) then id ∷ []
    else found columns row ids

abbrev pub gained_by : List ℕ → List Value → List (List Value) → List (List Value)
gained_by [] row gained = row ∷ gained
gained_by (id ∷ ids) row gained = gained

-- the rows that no id has
abbrev pub gained_rows : List (List Write) → List ℕ → List (List Value) → List (List Value)
gained_rows columns live [] = []
gained_rows columns live (row ∷ rows) = gained_by (found columns row live) row
    (gained_rows columns live rows)

abbrev pub id_by : List ℕ → List ℕ → ℕ → ℕ
id_by (id ∷ ids) lost next = id
id_by [] (id ∷ lost) next = id
id_by [] [] next = next

abbrev pub lost_by : List ℕ → List ℕ → List ℕ
lost_by (id ∷ ids) lost = lost
lost_by [] (id ∷ lost) = lost
lost_by [] [] = []

abbrev pub next_by : List ℕ → List ℕ → ℕ → ℕ
next_by (id ∷ ids) lost next = next
next_by [] (id ∷ lost) next = next
next_by [] [] next = next + 1

-- the id of each row: its own, or that of the next lost row, or a new one
abbrev pub after_ids : List (List Write) → List ℕ → List ℕ → ℕ → List (List Value) → List ℕ
after_ids columns live lost next [] = []
after_ids columns live lost next (row ∷ rows) =
    id_by (found columns row live) lost next
    ∷ after_ids columns live (lost_by (found columns row live) lost)
    (next_by (found columns row live) lost next) rows

-- the id that each row has, if any
abbrev pub owner : List ℕ → Option ℕ
owner [] = None
owner (id ∷ ids) = Some id

abbrev pub owners : List (List Write) → List ℕ → List (List Value) → List (Option ℕ)
owners columns live [] = []
owners columns live (row ∷ rows) = owner (found columns row live) ∷ owners columns live rows

abbrev pub no_owners : List (List Value) → List (Option ℕ)
no_owners [] = []
no_owners (row ∷ rows) = None ∷ no_owners rows

-- the same ids from those that rows have already
abbrev pub given_ids : List (Option ℕ) → List ℕ → ℕ → List ℕ
given_ids [] lost next = []
given_ids (Some id ∷ owners) lost next = id ∷ given_ids owners lost next
given_ids (None ∷ owners) lost next = id_by [] lost next
    ∷ given_ids owners (lost_by [] lost) (next_by [] lost next)
