-- What calls of `put` do, one after the other.
use Rattle.std.specs.Prelude.{ℕ, ◌≤◌, IsTrue, List, [], ◌∷◌, ◌++◌, length, take}
use Rattle.disk_model.specs.Meaning.{Meaning}
use Rattle.disk_model.specs.Moments.{GoesOn, Leaves}
use Rattle.journal.specs.Records.{Record, Holds, StandsFor}
use Rattle.journal.specs.JournalFiles.{Stands, WithOrWithout}

-- A put of a record at this gate, whatever it answers: at each moment of the call a crash leaves
-- the records before, with the new one or without.
pub record Puts (old new : Meaning) (at : ℕ) (r : Record) : Type 0 where
  pub goes : GoesOn old new
  pub any_moment : (rs : List Record) → IsTrue old.is_honest → Stands old at rs
      → Leaves old new (WithOrWithout rs r)

-- Where it answers Ok, every crash leaves the new record too, and the gate after it is the next.
abbrev pub Acknowledges : Meaning → Meaning → ℕ → ℕ → Record → Type 0
Acknowledges old new at next r =
    (rs : List Record) → IsTrue old.is_honest → Stands old at rs → Stands new next (rs ++ r ∷ [])

-- Puts after one another, each answered Ok, with the records in their order. A put that is
-- answered Full changes neither the disk nor the gate's place, so it may stand anywhere between.
pub data ArePut : Meaning → ℕ → List Record → Meaning → ℕ → Type 1 where
  none : (d : Meaning) (at : ℕ) → ArePut d at [] d at
  more : (start last new : Meaning) (at gate next : ℕ) (rs : List Record) (r : Record)
      → ArePut start at rs last gate → Puts last new gate r → Acknowledges last new gate next r
      → ArePut start at (rs ++ r ∷ []) new next

-- the opening records, and after them a prefix of those that were put: at least so many of them,
-- and at most so many
abbrev pub HoldsPrefix : List Record → List Record → ℕ → ℕ → List ℕ → Type 0
HoldsPrefix opening put least most c =
    (n : ℕ) × (least ≤ n) × (n ≤ most) × Holds c (opening ++ take n put)

-- the same of what a file stands for
abbrev pub StandsForPrefix : List Record → List Record → ℕ → ℕ → List ℕ → Type 0
StandsForPrefix opening put least most c =
    (n : ℕ) × (least ≤ n) × (n ≤ most) × StandsFor c (opening ++ take n put)

-- These have been put after the opening records, and each was answered Ok: at each moment a crash
-- leaves the opening records and a prefix of them, and now it leaves them all. This is what a loop
-- over puts keeps, and so what one over commits does.
pub record HavePut (start now : Meaning) (gate : ℕ) (opening put : List Record) : Type 0 where
  pub goes : GoesOn start now
  pub leaves : Leaves start now (HoldsPrefix opening put 0 (length put))
  pub stands : Stands now gate (opening ++ put)
