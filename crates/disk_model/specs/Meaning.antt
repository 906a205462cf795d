-- A disk as its callers see it: what a read gives, and what a crash may leave.
use Rattle.std.specs.Prelude.{◌≡◌, ℕ, ◌≤◌, Bool, IsTrue, List, ◌∷◌, Option, Some, None}

-- What a disk is at one moment.
pub record Meaning : Type 1 where
  -- what a read gives, where the disk tells it
  pub seen : Option (List ℕ)
  -- the files that a crash at this moment may leave
  pub may_leave : List ℕ → Type 0
  -- this moment, as a number that does not fall
  pub moment : ℕ
  -- the files that a crash at some moment from that one on may have left
  pub left_since : ℕ → List ℕ → Type 0
  -- how often the disk has failed
  pub faults : ℕ
  -- it keeps to the model of written ranges and syncs
  pub is_honest : Bool
  -- the references through which it is borrowed, the outermost first: none of a disk itself
  pub names : List ℕ

-- What is so of each disk at each moment.
pub record IsValid (d : Meaning) : Type 0 where
  -- this moment is one of those from it on, and there is no other yet
  pub now : (c : List ℕ) → d.may_leave c → d.left_since d.moment c
  pub only_now : (c : List ℕ) → d.left_since d.moment c → d.may_leave c
  -- and it is one of those from an earlier one on
  pub earlier : (t : ℕ) (c : List ℕ) → t ≤ d.moment → d.left_since d.moment c → d.left_since t c
  -- what a read gives is one of the files that a crash now may leave
  pub stays : (file : List ℕ) → IsTrue d.is_honest → d.seen ≡ Some file → d.may_leave file

-- of what a read gives, where the disk tells it
abbrev pub IfKnown : Option (List ℕ) → (List ℕ → Type 0) → Type 0
IfKnown None P = Unit {0}
IfKnown (Some file) P = P file

-- a disk that tells its content goes on telling it, one that does not goes on so, and the two
-- contents are related in this way
abbrev pub BothKnown : (List ℕ → List ℕ → Type 0) → Option (List ℕ) → Option (List ℕ) → Type 0
BothKnown step None None = Unit {0}
BothKnown step None (Some new) = ⊥
BothKnown step (Some old) None = ⊥
BothKnown step (Some old) (Some new) = step old new

-- a crash leaves this file and no other
abbrev pub Only : List ℕ → (List ℕ → Type 0) → Type 0
Only file outcomes = (c : List ℕ) → outcomes c → c ≡ file

-- the disk after a reference of this name
abbrev pub borrowed_as : ℕ → Meaning → Meaning
borrowed_as name d = record {
  seen = d.seen;
  may_leave = d.may_leave;
  moment = d.moment;
  left_since = d.left_since;
  faults = d.faults;
  is_honest = d.is_honest;
  names = name ∷ d.names;
}

-- the same disk, with a count of faults of its own
abbrev pub with_faults : Meaning → ℕ → Meaning
with_faults d faults = record {
  seen = d.seen;
  may_leave = d.may_leave;
  moment = d.moment;
  left_since = d.left_since;
  faults = faults;
  is_honest = d.is_honest;
  names = d.names;
}
