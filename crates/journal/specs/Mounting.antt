-- What a crash may leave while a journal is mounted.
use Rattle.std.specs.Prelude.{◌≡◌, ◌≢◌, ◌⊎◌, ℕ, ◌≤◌, IsTrue, List, length, Some}
use Rattle.disk_model.specs.Meaning.{Meaning}
use Rattle.disk_model.specs.Moments.{Leaves, Turns}
use Rattle.journal.specs.Records.{empty_journal}

-- the file, or at most nine bytes where it had no more and was not the empty journal: where that
-- stands, nothing is written
abbrev pub SameOrNine : List ℕ → List ℕ → Type 0
SameOrNine file c =
    (c ≡ file) ⊎ ((length file ≤ 9) × (length c ≤ 9) × (file ≢ empty_journal))

-- the first sync has not succeeded: a crash leaves what it might have left at the call's start
abbrev pub IsNotSynced : Meaning → Meaning → Type 0
IsNotSynced old new = IsTrue old.is_honest → Leaves old new old.may_leave

-- it has succeeded: from then on a crash leaves the file that a read gave at the call's start, or
-- at most nine bytes where it had no more and was not the empty journal
abbrev pub KeepsFile : Meaning → Meaning → Type 0
KeepsFile old new =
    (file : List ℕ) → IsTrue old.is_honest → old.seen ≡ Some file → Turns old new (SameOrNine file)
