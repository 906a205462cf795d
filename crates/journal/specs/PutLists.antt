-- Lists of records that are put one after the other.
use Rattle.std.specs.Prelude.{◌≡◌, ℕ, ◌+◌, IsTrue, List, [], ◌∷◌, length, map}
use Rattle.std.specs.Prelude.{nat_lt, if◌then◌else◌, Some}
use Rattle.disk_model.specs.Meaning.{Meaning}
use Rattle.disk_model.specs.Moments.{Leaves, UntilSynced}
use Rattle.journal.specs.Puts.{HoldsPrefix, StandsForPrefix}
use Rattle.journal.specs.Records.{Record, StandsFor, before_gate}
use Rattle.journal.specs.JournalFiles.{Stands, sealed_record, needs}
use Rattle.journal.specs.declared.sealed.Sealed.{Sealed}

abbrev pub records_of : List Sealed → List Record
records_of list = map sealed_record list

-- the records of a list that are put at a gate: each that ends within the limit, after those before
-- it that do
abbrev pub fitting : ℕ → ℕ → List Record → List Record
fitting limit at [] = []
fitting limit at (r ∷ rs) =
    if nat_lt limit (at + needs r) then fitting limit at rs
    else r ∷ fitting limit (at + 10 + length r.1) rs

-- the records of a list that are put after these, whose gates and frames stand before them
abbrev pub fitting_after : ℕ → List Record → List Record → List Record
fitting_after limit opening rs = fitting limit (length (before_gate opening)) rs

-- At each moment of a call that puts these a crash leaves the opening records, and after them a
-- prefix of these.
abbrev pub PutsEach : Meaning → Meaning → ℕ → List Record → Type 0
PutsEach old new at put =
    (opening : List Record) → IsTrue old.is_honest → Stands old at opening
    → Leaves old new (HoldsPrefix opening put 0 (length put))

-- After such a call a crash leaves at least so many of them, and at most so many.
abbrev pub LeavesPut : Meaning → Meaning → ℕ → List Record → ℕ → ℕ → Type 0
LeavesPut old new at put least most =
    (opening : List Record) → IsTrue old.is_honest → Stands old at opening
    → (c : List ℕ) → new.may_leave c → HoldsPrefix opening put least most c

-- A journal was to be mounted, and this list to be put: until the first sync has succeeded a crash
-- leaves what it might have left before, and from then on the opening records and a prefix of those
-- of the list that fit.
abbrev pub MountsAndPuts : Meaning → Meaning → ℕ → List Record → Type 0
MountsAndPuts old new limit rs =
    (file : List ℕ) (opening : List Record) → IsTrue old.is_honest → old.seen ≡ Some file
    → StandsFor file opening
    → UntilSynced old new
    (StandsForPrefix opening (fitting_after limit opening rs) 0
    (length (fitting_after limit opening rs)))

-- After it a crash leaves at least so many of them, and at most so many.
abbrev pub EndsWith : Meaning → Meaning → ℕ → List Record → ℕ → ℕ → Type 0
EndsWith old new limit rs least most =
    (file : List ℕ) (opening : List Record) → IsTrue old.is_honest → old.seen ≡ Some file
    → StandsFor file opening → (c : List ℕ) → new.may_leave c
    → StandsForPrefix opening (fitting_after limit opening rs) least most c

-- So many are all of the list that fit.
abbrev pub IsAll : Meaning → ℕ → List Record → ℕ → Type 0
IsAll old limit rs n =
    (file : List ℕ) (opening : List Record) → IsTrue old.is_honest → old.seen ≡ Some file
    → StandsFor file opening → n ≡ length (fitting_after limit opening rs)
