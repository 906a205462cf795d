-- A file that is not one of whole records: where it leaves the grammar.
use Rattle.std.specs.Prelude.{◌≡◌, ◌≢◌, ◌⊎◌, not, Bool, true, IsTrue, ℕ, ◌+◌, ◌<◌, ◌≤◌, List, []}
use Rattle.std.specs.Prelude.{◌∷◌}
use Rattle.std.specs.Prelude.{◌++◌, length, take, drop, get_or}
use Rattle.std.specs.Int.{w64, from_be_bytes}
use Rattle.journal.specs.Records.{Record, header, before_gate, is_known, AreKnown}

-- the first byte that differs from the header
pub record DiffersAt (file : List ℕ) (place : ℕ) : Type 0 where
  pub within : place < 8
  pub before : take place file ≡ take place header
  pub differs : get_or file place 0 ≢ get_or header place 0

-- what stands after an open gate has no known kind
abbrev pub has_no_kind : List ℕ → Bool
has_no_kind [] = true
has_no_kind (kind ∷ rest) = not (is_known kind)

-- its length is not whole, or the next gate lies outside the file
abbrev pub IsCut : List ℕ → Type 0
IsCut rest = (length rest < 9) ⊎ (length rest ≤ 9 + from_be_bytes w64 (take 8 (drop 1 rest)))

-- What stands after the open gate at `at` is no whole record: its kind is unknown or not there,
-- which is damage at the kind's place, or it is cut, which is damage at the length's.
abbrev pub IsBadFrame : ℕ → List ℕ → ℕ → Type 0
IsBadFrame at rest place =
    (IsTrue (has_no_kind rest) × (place ≡ at + 1))
    ⊎ (IsTrue (not (has_no_kind rest)) × IsCut rest × (place ≡ at + 2))

-- after whole records stands an open gate, and after it no whole record
pub record BreaksAt (file : List ℕ) (place : ℕ) : Type 0 where
  pub records : List Record
  pub rest : List ℕ
  pub file_is : file ≡ before_gate records ++ 1 ∷ rest
  pub known : AreKnown records
  pub bad : IsBadFrame (length (before_gate records)) rest place

-- the place of the damage; a file of at most nine bytes has none
pub record IsDamagedAt (file : List ℕ) (place : ℕ) : Type 0 where
  pub long : 9 < length file
  pub is : DiffersAt file place ⊎ BreaksAt file place
