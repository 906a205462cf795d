-- A write and its sync.
use Rattle.std.specs.Prelude.{◌≡◌, ℕ, IsTrue, List}
use Rattle.disk_model.specs.Meaning.{Meaning, BothKnown, IfKnown, Only}
use Rattle.disk_model.specs.Moments.{GoesOn, Leaves}
use Rattle.disk_model.specs.DeviceCalls.{Torn, with_bytes}

-- at each moment a crash leaves what it might have left before, with any bytes in the range
pub record Through (at n : ℕ) (old new : Meaning) : Type 0 where
  pub goes : GoesOn old new
  pub torn : IsTrue old.is_honest → Leaves old new
      (λ c. (d : List ℕ) × old.may_leave d × Torn at n d c)

-- the bytes stand there, and a crash leaves them
pub record Landed (at : ℕ) (bytes : List ℕ) (old new : Meaning) : Type 0 where
  pub written : BothKnown (λ before after. after ≡ with_bytes before at bytes) old.seen new.seen
  pub durable : IsTrue old.is_honest → IfKnown new.seen (λ file. Only file new.may_leave)
  pub unfailed : new.faults ≡ old.faults
