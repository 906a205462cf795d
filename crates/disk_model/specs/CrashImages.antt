-- Crash images by number, each of them one of the files that a crash may leave.
use Rattle.std.specs.Prelude.{ℕ, ◌+◌, ◌-◌, ◌%◌, nat_eq, nat_le, nat_lt, Bool, false, ◌&&◌, ◌||◌}
use Rattle.std.specs.Prelude.{if◌then◌else◌, List, [], ◌∷◌, length, get_or, map}
use Rattle.std.specs.List.{range_with_len}
use Rattle.disk_model.specs.Images.{State}

-- the range at this place, of n bytes, has place i
abbrev pub is_within : ℕ → ℕ → ℕ → Bool
is_within at n i = nat_le at i && nat_lt i (at + n)

-- some range has this place
abbrev pub is_written : List (ℕ × ℕ) → ℕ → Bool
is_written [] i = false
is_written (range ∷ ranges) i = is_within range.0 range.1 i || is_written ranges i

-- the length of the last sync, and some of the growth since
abbrev pub image_length : State → ℕ → ℕ
image_length s pick = length s.synced + pick % (length s.seen - length s.synced + 1)

-- spoiled where a write has come since the last sync, and past the length that it left
abbrev pub image_byte : State → ℕ → ℕ → ℕ
image_byte s pick i =
    if is_written s.ranges i || nat_le (length s.synced) i then pick % 256 else get_or s.synced i 0

-- Pick 0 is what a read gives, pick 1 what the last sync left; every other pick spoils all bytes
-- that a crash may spoil.
abbrev pub crash_image : State → ℕ → List ℕ
crash_image s pick =
    if nat_eq pick 0 then s.seen
    else if nat_eq pick 1 then s.synced
    else map (image_byte s pick) (range_with_len 0 (image_length s pick))
