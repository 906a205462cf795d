-- The list of writes and syncs that a disk in memory keeps.
use Rattle.std.specs.Prelude.{◌≡◌, ℕ, ◌+◌, ◌-◌, ◌<◌, Bool, true, false, ◌||◌, List, [], ◌∷◌}
use Rattle.std.specs.Prelude.{get_or, take, drop, Some, None}
use Rattle.disk_model.specs.Images.{Step}
use Rattle.disk_model.specs.CrashImages.{is_within}
use Rattle.disk_model.specs.declared.call.Call.{Call}
use Rattle.disk_model.specs.declared.call.Call.TheVariants as call

-- how many bytes they wrote in all
abbrev pub total : List Call → ℕ
total [] = 0
total (call.Write at len ∷ calls) = len + total calls
total (call.Sync ∷ calls) = total calls

-- the steps, where the bytes of all writes stand after one another
abbrev pub steps_of : List Call → List ℕ → List Step
steps_of [] bytes = []
steps_of (call.Write at len ∷ calls) bytes =
    Some (at, take len bytes) ∷ steps_of calls (drop len bytes)
steps_of (call.Sync ∷ calls) bytes = None ∷ steps_of calls bytes

-- none of them is a sync
abbrev pub are_writes : List Call → Bool
are_writes [] = true
are_writes (call.Write at len ∷ calls) = are_writes calls
are_writes (call.Sync ∷ calls) = false

-- one of them wrote at this place
abbrev pub has_written : List Call → ℕ → Bool
has_written [] i = false
has_written (call.Write at len ∷ calls) i = is_within at len i || has_written calls i
has_written (call.Sync ∷ calls) i = has_written calls i

-- the last of the first n calls, where n is not 0, is a sync
abbrev pub LastIsSync : ℕ → List Call → Type 0
LastIsSync n calls = 0 < n → get_or calls (n - 1) call.Sync ≡ call.Sync
