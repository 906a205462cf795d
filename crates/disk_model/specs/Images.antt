-- What a crash may leave of a file, from what the last sync left and the writes since.
use Rattle.std.specs.Prelude.{◌≡◌, ◌⊎◌, ℕ, ◌+◌, ◌<◌, ◌≤◌, nat_le, Bool, true, ◌&&◌, List, [], ◌∷◌}
use Rattle.std.specs.Prelude.{length, get_or, Option, Some, None}
use Rattle.disk_model.specs.DeviceCalls.{with_bytes}

-- a write of these bytes at this place; none is a sync
abbrev pub Step : Type 0
Step = Option (ℕ × List ℕ)

-- what a read gives, what the last sync left, and the ranges written since, each a place and a
-- length
pub record State : Type 0 where
  pub seen : List ℕ
  pub synced : List ℕ
  pub ranges : List (ℕ × ℕ)

-- a file that is synced
abbrev pub begun : List ℕ → State
begun file = record { seen = file; synced = file; ranges = [] }

abbrev pub after : Step → State → State
after (Some write) s = record {
  seen = with_bytes s.seen write.0 write.1;
  synced = s.synced;
  ranges = (write.0, length write.1) ∷ s.ranges;
}
after None s = record { seen = s.seen; synced = s.seen; ranges = [] }

-- after all these steps, the first of them first
abbrev pub run : State → List Step → State
run s [] = s
run s (step ∷ steps) = run (after step s) steps

-- a write begins at or before the end
abbrev pub fits : State → Step → Bool
fits s (Some write) = nat_le write.0 (length s.seen)
fits s None = true

abbrev pub all_fit : State → List Step → Bool
all_fit s [] = true
all_fit s (step ∷ steps) = fits s step && all_fit (after step s) steps

-- none of the ranges has this place
abbrev pub IsUnwritten : List (ℕ × ℕ) → ℕ → Type 0
IsUnwritten [] i = Unit {0}
IsUnwritten (range ∷ ranges) i =
    ((i < range.0) ⊎ (range.0 + range.1 ≤ i)) × IsUnwritten ranges i

-- A crash may leave this: any length from that of the last sync to the present one, any bytes past
-- the first of these and in each range that was written since, and elsewhere the bytes of the last
-- sync.
pub record IsImage (s : State) (c : List ℕ) : Type 0 where
  pub no_shorter : length s.synced ≤ length c
  pub no_longer : length c ≤ length s.seen
  pub stays : (i : ℕ) → i < length s.synced → IsUnwritten s.ranges i
      → get_or c i 0 ≡ get_or s.synced i 0
