-- What a mount opens, and what a crash leaves of a mount and of the puts after it.
use Rattle.std.proofs.Common.{◌≡◌, inl, inr, ℕ, ◌+◌, ◌≤◌, IsTrue, List, [], ◌∷◌, ◌++◌, length}
use Rattle.std.proofs.Common.{take, sym}
use Rattle.std.proofs.Common.{ap, subst, arith}
use Rattle.std.proofs.lemmas.List.{append-nil}
use Rattle.disk_model.specs.Meaning.{Meaning, IsValid}
use Rattle.disk_model.specs.Moments.{GoesOn, Leaves, Turns}
use Rattle.disk_model.specs.MomentLaws.{goes_trans, turns_then}
use Rattle.journal.specs.Records.{Record, StandsFor}
use Rattle.journal.specs.RecordLaws.{none_in_nine, stands_for_one}
use Rattle.journal.specs.JournalFiles.{Stands}
use Rattle.journal.specs.Reading.{IsOpened, records_in}
use Rattle.journal.specs.Mounting.{SameOrNine}
use Rattle.journal.specs.Puts.{Puts, ArePut, HoldsPrefix, StandsForPrefix, HavePut}
use Rattle.journal.specs.PutLaws.{have_put, leaves_one_more, exit_one_more}
use Rattle.journal.specs.PutLaws as puts_after
use Rattle.journal.specs.declared.rec.Rec.{Rec}

-- what is opened, the file stands for
pub opened_stands : (file : List ℕ) (recs : List Rec) (at : ℕ) → IsOpened file recs at
    → StandsFor file (records_in recs)
opened_stands file recs at (inl short) = inl (short.0, ap records_in short.1)
opened_stands file recs at (inr read) = inr read.1.holds

-- what is opened is what the file stands for
pub opened_records : (file : List ℕ) (rs : List Record) (recs : List Rec) (at : ℕ)
    → StandsFor file rs → IsOpened file recs at → rs ≡ records_in recs
opened_records file rs recs at stands_for opened =
    stands_for_one file rs (records_in recs) stands_for (opened_stands file recs at opened)

-- A journal is mounted, and puts follow: until the first sync has succeeded a crash leaves what it
-- might have left before, and from then on the opening records and a prefix of those put.
module _ (file : List ℕ) (opening put : List Record) (stands_for : StandsFor file opening) where
  still_stands : (c : List ℕ) → SameOrNine file c → StandsFor c opening
  still_stands c (inl same) = subst (λ f. StandsFor f opening) (sym same) stands_for
  still_stands c (inr short) = inl (short.1, nothing stands_for)
    where
      nothing : StandsFor file opening → opening ≡ []
      nothing (inl none) = none.1
      nothing (inr holds) = none_in_nine file opening short.0 holds

  pub none_yet : (most : ℕ) (c : List ℕ) → SameOrNine file c → StandsForPrefix opening put 0 most c
  none_yet most c same = (
    0,
    omega arith,
    omega arith,
    subst (StandsFor c) (sym (append-nil opening))
        (still_stands c same),
  )

  pub mount_then : (old start now : Meaning) (most : ℕ) → GoesOn old start
      → Turns old start (SameOrNine file) → GoesOn start now
      → Leaves start now (HoldsPrefix opening put 0 most)
      → Turns old now (StandsForPrefix opening put 0 most)
  mount_then old start now most one turns two leaves =
      turns_then old start now (SameOrNine file) (StandsForPrefix opening put 0 most) one turns two
      (none_yet most)
      (λ c left. let prefix = leaves c left in
      (prefix.0, prefix.1, prefix.2, inr prefix.3))

  pub mount_and_put : (old start now : Meaning) (at gate : ℕ) → GoesOn old start
      → Turns old start (SameOrNine file) → IsValid start → IsTrue start.is_honest
      → Stands start at opening → ArePut start at put now gate
      → Turns old now (StandsForPrefix opening put 0 (length put))
  mount_and_put old start now at gate one turns law honest stands puts =
      let have = have_put start now at gate opening put law honest stands puts in
      mount_then old start now (length put) one turns have.goes have.leaves

-- the same where one more put follows that may have failed
pub mount_and_stop : (file : List ℕ) (opening put : List Record) → StandsFor file opening
    → (old start last new : Meaning) (at gate : ℕ) (r : Record) → GoesOn old start
    → Turns old start (SameOrNine file) → IsValid start → IsTrue start.is_honest
    → Stands start at opening → ArePut start at put last gate → Puts last new gate r
    → Turns old new (StandsForPrefix opening (put ++ r ∷ []) 0 (length (put ++ r ∷ [])))
mount_and_stop file opening put stands_for old start last new at gate r one turns law honest stands
    are puts =
    let have = have_put start last at gate opening put law honest stands are in
    mount_then file opening (put ++ r ∷ []) stands_for old start new
    (length (put ++ r ∷ [])) one turns
    (goes_trans start last new have.goes puts.goes)
    (leaves_one_more start last gate opening put honest have new r puts)

-- Both bounds at once: some records are put, then more, and then one that may have failed. Since
-- the first sync of the mount every crash leaves the opening records and a prefix of those put, and
-- from the moment on at which the first of them had been answered Ok it leaves all of these.
pub mount_and_close : (file : List ℕ) (opening put more : List Record) → StandsFor file opening
    → (old start mid last new : Meaning) (at gate place : ℕ) (r : Record) → GoesOn old start
    → Turns old start (SameOrNine file) → IsValid start → IsValid mid → IsTrue start.is_honest
    → Stands start at opening → ArePut start at put mid gate → ArePut mid gate more last place
    → Puts last new place r
    → Turns old new (StandsForPrefix opening (put ++ (more ++ r ∷ [])) 0
    (length (put ++ (more ++ r ∷ []))))
    × Leaves mid new (StandsForPrefix opening (put ++ (more ++ r ∷ [])) (length put)
    (length (put ++ (more ++ r ∷ []))))
mount_and_close file opening put more stands_for old start mid last new at gate place r one turns
    law law_mid honest stands before then puts =
    let whole = put ++ (more ++ r ∷ []) in
    let first = puts_after.first start mid last at gate place opening put more law law_mid honest
    stands before then in
    let second = puts_after.second start mid last at gate place opening put more law law_mid honest
    stands before then in (
      mount_then file opening whole stands_for old start new (length whole) one turns
          (goes_trans start mid new first.goes (goes_trans mid last new second.goes puts.goes))
          (puts_after.all_the_while start mid last at gate place opening put more law law_mid honest
          stands before then new r puts),
      λ c left. let prefix = puts_after.from_then_on_stopped start mid last at gate place opening
          put
          more law law_mid honest stands before then new r puts c left in
          (prefix.0, prefix.1, prefix.2, inr prefix.3),
    )

-- Mounting again: of what a crash leaves after some puts that were answered Ok and one that may
-- have failed, a mount opens the opening records and all of the first, and at most that one more.
pub mounts_again : (start last new : Meaning) (gate : ℕ) (opening put : List Record)
    → IsTrue start.is_honest → HavePut start last gate opening put → (r : Record) → IsValid new
    → Puts last new gate r → (c : List ℕ) → new.may_leave c → (recs : List Rec) (at : ℕ)
    → IsOpened c recs at
    → (n : ℕ) × (length put ≤ n) × (n ≤ length put + 1)
    × (records_in recs ≡ opening ++ take n (put ++ r ∷ []))
mounts_again start last new gate opening put honest have r law puts c left recs at opened =
    let prefix = exit_one_more start last gate opening put honest have new r law puts c left in (
      prefix.0,
      prefix.1,
      prefix.2,
      sym (opened_records c (opening ++ take prefix.0 (put ++ r ∷ []))
          recs at (inr prefix.3) opened),
    )
