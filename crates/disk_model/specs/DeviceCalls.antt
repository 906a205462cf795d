-- What the calls of a disk do, of whatever answer.
use Rattle.std.specs.Prelude.{◌≡◌, ℕ, ◌+◌, ◌≤◌, max, IsTrue, List, ◌++◌, length, take, drop, Some}
use Rattle.disk_model.specs.Meaning.{Meaning, BothKnown, Only}
use Rattle.disk_model.specs.Moments.{GoesOn, BeforeOrAfter}

-- the file with these bytes at this place, over what stood there and past the end
abbrev pub with_bytes : List ℕ → ℕ → List ℕ → List ℕ
with_bytes file at bytes = take at file ++ (bytes ++ drop (at + length bytes) file)

-- after a write of n bytes that is cut short: any bytes in the range, any length between the two,
-- and the same bytes elsewhere
pub record Torn (at n : ℕ) (old new : List ℕ) : Type 0 where
  pub before : take at new ≡ take at old
  pub after : drop (at + n) new ≡ drop (at + n) old
  pub no_shorter : length old ≤ length new
  pub no_longer : length new ≤ max (length old) (at + n)

-- each file that a crash may leave now is one that it might have left before, after a step
abbrev pub Follows : (List ℕ → List ℕ → Type 0) → (List ℕ → Type 0) → (List ℕ → Type 0) → Type 0
Follows step old new = (c : List ℕ) → new c → (d : List ℕ) × old d × step d c

-- a call that reads: nothing changes but the count of faults
pub record Reads (old new : Meaning) : Type 0 where
  pub goes : GoesOn old new
  pub seen : new.seen ≡ old.seen
  pub crash : IsTrue old.is_honest → (c : List ℕ) → new.may_leave c → old.may_leave c
  pub during : IsTrue old.is_honest → BeforeOrAfter old new

-- a write of n bytes, which may have failed: it leaves its range as a crash may leave it
pub record Writes (at n : ℕ) (old new : Meaning) : Type 0 where
  pub goes : GoesOn old new
  pub seen : BothKnown (Torn at n) old.seen new.seen
  pub crash : IsTrue old.is_honest → Follows (Torn at n) old.may_leave new.may_leave
  pub during : IsTrue old.is_honest → BeforeOrAfter old new

-- a sync, which may have failed: it leaves all ranges written since the last sync that succeeded
-- as a crash may leave them (what a read gives is one of the files that a crash may leave)
pub record Syncs (old new : Meaning) : Type 0 where
  pub goes : GoesOn old new
  pub tells : BothKnown (λ _ _. Unit {0}) old.seen new.seen
  pub crash : IsTrue old.is_honest → (c : List ℕ) → new.may_leave c → old.may_leave c
  pub during : IsTrue old.is_honest → BeforeOrAfter old new

-- a disk on which nothing has been done, with this content, all of it synced
pub record StartsWith (file : List ℕ) (d : Meaning) : Type 0 where
  pub seen : d.seen ≡ Some file
  pub durable : Only file d.may_leave
  pub honest : IsTrue d.is_honest
  pub faults : d.faults ≡ 0
