-- A mount, and a list of puts after it.
use Rattle.std.proofs.Common.{◌≡◌, ◌⊎◌, inl, inr, ℕ, IsTrue, List, length, sym}
use Rattle.std.proofs.Common.{◌∙◌, ap, subst}
use Rattle.std.specs.Prelude.{Some, Result, Err}
use Rattle.disk_model.specs.Meaning.{Meaning, IfKnown}
use Rattle.disk_model.specs.Moments.{GoesOn, Leaves}
use Rattle.disk_model.specs.MomentLaws.{still_honest, turns_weaker}
use Rattle.journal.specs.MountLaws.{opened_records, mount_then, none_yet}
use Rattle.journal.specs.Mounting.{IsNotSynced, KeepsFile, SameOrNine}
use Rattle.journal.specs.PutLists.{fitting, fitting_after, PutsEach, LeavesPut}
use Rattle.journal.specs.PutLists.{MountsAndPuts, EndsWith, IsAll}
use Rattle.journal.specs.Puts.{HoldsPrefix, StandsForPrefix}
use Rattle.journal.specs.Reading.{IsOpened, records_in}
use Rattle.journal.specs.Records.{Record, StandsFor}
use Rattle.journal.specs.JournalFiles.{Stands}
use Rattle.journal.specs.declared.rec.Rec.{Rec}
use Rattle.journal.specs.declared.fault.PutsFault.{PutsFault}
use Rattle.journal.specs.declared.fault.PutsFault.TheVariants as puts

-- how many were put before the one that failed
abbrev pub stopped_at : {X : Type 0} → Result X PutsFault → ℕ
stopped_at (Err (puts.Stopped n)) = n
stopped_at _ = 0

-- the mount was refused
pub refused : (old new : Meaning) (limit : ℕ) (rs : List Record) (X : Type 0)
    → (X × IsNotSynced old new) ⊎ KeepsFile old new → MountsAndPuts old new limit rs
refused old new limit rs X (inl early) file opening honest seen stands_for = inl (early.1 honest)
refused old new limit rs X (inr keeps) file opening honest seen stands_for =
    let put = fitting_after limit opening rs in
    inr (turns_weaker old new (SameOrNine file) (StandsForPrefix opening put 0 (length put))
    (keeps file honest seen) (none_yet file opening put stands_for (length put)))

-- it was mounted
module _ (old start new : Meaning) (limit at : ℕ) (recs : List Rec) (rs : List Record)
    (opened : IfKnown old.seen (λ file. IsOpened file recs at))
    (stands : (file : List ℕ) → IsTrue old.is_honest → old.seen ≡ Some file
    → Stands start at (records_in recs))
    (one : GoesOn old start) (keeps : KeepsFile old start) (two : GoesOn start new) where
  module _ (file : List ℕ) (opening : List Record) (seen : old.seen ≡ Some file)
      (stands_for : StandsFor file opening) where
    opening_is : opening ≡ records_in recs
    opening_is = opened_records file opening recs at stands_for
        (subst (λ o. IfKnown o (λ f. IsOpened f recs at)) seen opened)

    module _ (honest : IsTrue old.is_honest) where
      stands_now : Stands start at opening
      stands_now = subst (Stands start at) (sym opening_is) (stands file honest seen)

      honest_now : IsTrue start.is_honest
      honest_now = still_honest old start one honest

      put_is : fitting limit at rs ≡ fitting_after limit opening rs
      put_is = ap (λ n. fitting limit n rs) stands_now.place

  pub mounted : PutsEach start new at (fitting limit at rs) → MountsAndPuts old new limit rs
  mounted each file opening honest seen stands_for =
      let put = fitting_after limit opening rs in
      let same = put_is file opening seen stands_for honest in
      let leaves = each opening (honest_now file opening seen stands_for honest)
      (stands_now file opening seen stands_for honest) in
      inr (mount_then file opening put stands_for old start new (length put) one
      (keeps file honest seen) two
      (subst (λ l. Leaves start new (HoldsPrefix opening l 0 (length l))) same leaves))

  pub ended : (least most : ℕ) → LeavesPut start new at (fitting limit at rs) least most
      → EndsWith old new limit rs least most
  ended least most left_at_last file opening honest seen stands_for c left =
      let same = put_is file opening seen stands_for honest in
      let prefix = left_at_last opening (honest_now file opening seen stands_for honest)
      (stands_now file opening seen stands_for honest) c left in
      let held = subst (λ l. HoldsPrefix opening l least most c) same prefix in
      (held.0, held.1, held.2, inr held.3)

  pub all_of_them : (n : ℕ) → n ≡ length (fitting limit at rs) → IsAll old limit rs n
  all_of_them n is file opening honest seen stands_for =
      is ∙ ap length (put_is file opening seen stands_for honest)
