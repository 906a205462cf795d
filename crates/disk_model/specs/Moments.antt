-- The moments of a call of any length: of the disk, of a journal, of an archive, of a whole run.
use Rattle.std.specs.Prelude.{◌≡◌, ◌⊎◌, ℕ, ◌≤◌, List}
use Rattle.disk_model.specs.Meaning.{Meaning}

-- A call: its moments join the earlier ones, no fault is forgotten, and the disk is as honest
-- after it as before. What may have been left since a moment not after the call's start is what
-- may have been left since then as it stood before the call (`joins`, `keeps`), and what may have
-- been left since the call's start (`joins`, `adds`).
pub record GoesOn (old new : Meaning) : Type 0 where
  pub later : old.moment ≤ new.moment
  pub joins : (t : ℕ) (c : List ℕ) → t ≤ old.moment
      → new.left_since t c → old.left_since t c ⊎ new.left_since old.moment c
  pub keeps : (t : ℕ) (c : List ℕ) → t ≤ old.moment → old.left_since t c → new.left_since t c
  pub adds : (t : ℕ) (c : List ℕ) → t ≤ old.moment
      → new.left_since old.moment c → new.left_since t c
  pub counts : old.faults ≤ new.faults
  pub honest : new.is_honest ≡ old.is_honest
  pub same : new.names ≡ old.names

-- a crash at any moment of the call, its start and its end among them, leaves a file that has P
abbrev pub Leaves : Meaning → Meaning → (List ℕ → Type 0) → Type 0
Leaves old new P = (c : List ℕ) → new.left_since old.moment c → P c

-- at each moment of the call a crash leaves what it might have left before the call, or what it
-- may leave after it
abbrev pub BeforeOrAfter : Meaning → Meaning → Type 0
BeforeOrAfter old new = Leaves old new (λ c. old.may_leave c ⊎ new.may_leave c)

-- Up to some moment of the call a crash leaves what it might have left at the call's start, and
-- from that moment on a file that has P.
pub record Turns (old new : Meaning) (P : List ℕ → Type 0) : Type 0 where
  pub moment : ℕ
  pub later : old.moment ≤ moment
  pub reached : moment ≤ new.moment
  pub until : (c : List ℕ) → new.left_since old.moment c → old.may_leave c ⊎ new.left_since moment c
  pub from : (c : List ℕ) → new.left_since moment c → P c

-- The same of a call that may have ended before that moment. For a call that begins with a sync:
-- until that sync has succeeded a crash leaves what it might have left at the call's start, and
-- from then on a file that has P.
abbrev pub UntilSynced : Meaning → Meaning → (List ℕ → Type 0) → Type 0
UntilSynced old new P = Leaves old new old.may_leave ⊎ Turns old new P
