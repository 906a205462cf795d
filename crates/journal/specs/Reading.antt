-- The records that are read from a file.
use Rattle.std.specs.Prelude.{◌≡◌, ◌⊎◌, ◌≤◌, ℕ, ◌+◌, ◌<◌, ◌^◌, List, [], ◌∷◌, ◌++◌, length}
use Rattle.std.specs.Prelude.{map, take, drop, get_or}
use Rattle.std.specs.Int.{w64, to_be_bytes, from_be_bytes}
use Rattle.journal.specs.Records.{Record, IsKnown, AreKnown, Holds, before_gate, body}
use Rattle.journal.specs.declared.rec.Rec.{Rec}

abbrev pub record_of : Rec → Record
record_of rec = (rec.kind, rec.payload.items)

abbrev pub records_in : List Rec → List Record
records_in recs = map record_of recs

-- the places of the records' gates, the first of them here
abbrev pub gates : ℕ → List Record → List ℕ
gates at [] = []
gates at (r ∷ rs) = at ∷ gates (at + 10 + length r.1) rs

-- these are the records of the file, and that is the place of the gate after them
pub record AreRead (file : List ℕ) (recs : List Rec) (at : ℕ) : Type 0 where
  pub holds : Holds file (records_in recs)
  pub places : map (λ rec. rec.at) recs ≡ gates 8 (records_in recs)
  pub end : at ≡ length (before_gate (records_in recs))

-- records of known kinds, each with the place of its gate in a file that has them all
pub record AreInPlace (recs : List Rec) : Type 0 where
  pub known : AreKnown (records_in recs)
  pub places : map (λ rec. rec.at) recs ≡ gates 8 (records_in recs)
  pub short : length (before_gate (records_in recs)) < 2 ^ 64

-- what a file stands for that is not damaged
abbrev pub IsOpened : List ℕ → List Rec → ℕ → Type 0
IsOpened file recs at =
    ((length file ≤ 9) × (recs ≡ []) × (at ≡ 8)) ⊎ ((9 < length file) × AreRead file recs at)

-- what stands before a record's payload, which begins here: its kind, and the payload's length
pub record IsHead (rest : List ℕ) (kind len : ℕ) : Type 0 where
  pub whole : 9 ≤ length rest
  pub kind_is : kind ≡ get_or rest 0 0
  pub encoded : to_be_bytes w64 len ≡ take 8 (drop 1 rest)
  pub len_is : len ≡ from_be_bytes w64 (take 8 (drop 1 rest))

-- one record stands after the gate at that place, and the next gate after it
pub record IsRead (at : ℕ) (rest : List ℕ) (rec : Rec) (used : ℕ) : Type 0 where
  pub is : rest ≡ body (record_of rec) ++ drop used rest
  pub used_is : used ≡ 9 + length rec.payload.items
  pub inside : used < length rest
  pub place : rec.at ≡ at
  pub known : IsKnown rec.kind
  pub short : length rec.payload.items < 2 ^ 64
