-- What the bytes of a file stand for: records after one another, and a gate that is not open.
use Rattle.std.specs.Prelude.{◌≡◌, ◌≢◌, ◌⊎◌, ◌==◌, ◌||◌, Bool, IsTrue, ℕ, ◌^◌, ◌<◌, ◌≤◌, List, []}
use Rattle.std.specs.Prelude.{◌∷◌}
use Rattle.std.specs.Prelude.{◌++◌, length, nat_le, if◌then◌else◌}
use Rattle.std.specs.Int.{w64, to_be_bytes}

-- a kind and a payload
abbrev pub Record : Type 0
Record = ℕ × List ℕ

-- the kinds that a record may have: 1 is a command, 2 a checkpoint
abbrev pub is_known : ℕ → Bool
is_known kind = kind == 1 || kind == 2

abbrev pub IsKnown : ℕ → Type 0
IsKnown kind = IsTrue (is_known kind)

-- the bytes `PRIMA001`
abbrev pub header : List ℕ
header = 80 ∷ 82 ∷ 73 ∷ 77 ∷ 65 ∷ 48 ∷ 48 ∷ 49 ∷ []

-- the empty journal: the header and a closed gate
abbrev pub empty_journal : List ℕ
empty_journal = header ++ 0 ∷ []

-- a record after its gate: the kind, the length in 8 bytes, and the payload
abbrev pub body : Record → List ℕ
body r = r.0 ∷ to_be_bytes w64 (length r.1) ++ r.1

-- records after open gates
abbrev pub frames : List Record → List ℕ
frames [] = []
frames (r ∷ rs) = 1 ∷ body r ++ frames rs

-- the header and the records: all that stands before the gate that is not open
abbrev pub before_gate : List Record → List ℕ
before_gate rs = header ++ frames rs

abbrev pub AreKnown : List Record → Type 0
AreKnown [] = Unit {0}
AreKnown (r ∷ rs) = IsKnown r.0 × (length r.1 < 2 ^ 64) × AreKnown rs

-- The file has these records, and then a gate that is not open. What stands after that gate means
-- nothing.
pub record Holds (file : List ℕ) (rs : List Record) : Type 0 where
  pub gate : ℕ
  pub rest : List ℕ
  pub shut : gate ≢ 1
  pub file_is : file ≡ before_gate rs ++ gate ∷ rest
  pub known : AreKnown rs

-- the records that a file stands for; one of at most nine bytes stands for none
abbrev pub StandsFor : List ℕ → List Record → Type 0
StandsFor file rs = ((length file ≤ 9) × (rs ≡ [])) ⊎ Holds file rs

-- what opening makes of a file: the empty journal where it has at most nine bytes
abbrev pub opened_file : List ℕ → List ℕ
opened_file file = if nat_le (length file) 9 then empty_journal else file
