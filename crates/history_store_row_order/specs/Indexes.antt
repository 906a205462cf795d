-- The ids of the current rows after a change.
use Rattle.std.specs.Prelude.{ℕ, ◌-◌, ◌<◌, ◌≤◌, List, [], ◌∷◌, length, ⊤, if◌then◌else◌, nat_lt}
use Rattle.std.specs.List.{insert, remove}
use Rattle.history_store_row_order.specs.declared.index_splice.After.{After}
use Rattle.history_store_row_order.specs.declared.index_splice.After.TheVariants as given
use Rattle.history_store_row_order.specs.Logs.{few_changed_rows}

-- the ids but for those at these places, each a place among the ids that are left by then
abbrev pub without : List ℕ → List ℕ → List ℕ
without [] ids = ids
without (at ∷ from) ids = without from (remove ids at)

-- each is a place among the ids that are left by then
abbrev pub AreAmong : List ℕ → List ℕ → Type 0
AreAmong [] ids = ⊤
AreAmong (at ∷ from) ids = (at < length ids) × AreAmong from (remove ids at)

-- where a place comes to when those are out
abbrev pub place_without : List ℕ → ℕ → ℕ
place_without [] place = place
place_without (at ∷ from) place = place_without from (if nat_lt at place then place - 1 else place)

-- the ids, and each of the others put at its place, the last one first
abbrev pub with_each : List (ℕ × ℕ) → List ℕ → List ℕ
with_each [] ids = ids
with_each (p ∷ to) ids = insert (with_each to ids) p.0 p.1

-- each place is one among so many ids, or after them
abbrev pub AreAlong : List (ℕ × ℕ) → ℕ → Type 0
AreAlong [] n = ⊤
AreAlong (p ∷ to) n = (p.0 ≤ n) × AreAlong to n

-- all of them; or those before the change without the ids at the first places, and with the others
-- at theirs
pub data Index : Type 0 where
  Whole : (ids : List ℕ) → Index
  Moved : (from : List ℕ) (to : List (ℕ × ℕ)) → Index

-- the places alone are kept, and no copy of the index
abbrev pub IsMoved : Index → Type 0
IsMoved (Whole ids) = ⊥
IsMoved (Moved from to) = ⊤

abbrev pub index_of : After → Index
index_of (given.Whole index) = Whole index.ids
index_of (given.Moved from to) = Moved from.items to.items

-- the ids after the change
abbrev pub later_ids : Index → List ℕ → List ℕ
later_ids (Whole ids) before = ids
later_ids (Moved from to) before = with_each to (without from before)

-- how many ids are put into the index before the change
abbrev pub more_ids : Index → ℕ
more_ids (Whole ids) = 0
more_ids (Moved from to) = length to

-- each place is one among the ids that are there by then, and no more are put there than there is
-- always room for
abbrev pub IsPlaced : Index → List ℕ → Type 0
IsPlaced (Whole ids) before = ⊤
IsPlaced (Moved from to) before = AreAmong from before × AreAlong to (length (without from before))
    × (length to ≤ few_changed_rows)
