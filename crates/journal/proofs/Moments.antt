-- What a crash leaves of the two parts of a mount.
use Rattle.std.proofs.Common.{◌≡◌, inl, ℕ, List, ◌∙◌, subst, IsTrue}
use Rattle.std.specs.Prelude.{Some}
use Rattle.disk_model.specs.Meaning.{Meaning, Only, IfKnown}
use Rattle.disk_model.specs.Moments.{GoesOn, Leaves, Turns}
use Rattle.disk_model.specs.DeviceCalls.{Reads, Syncs}
use Rattle.disk_model.specs.MomentLaws.{still_honest, then_leaves, reads_only, reads_leaves}
use Rattle.disk_model.specs.MomentLaws.{synced_turns}
use Rattle.journal.specs.Mounting.{SameOrNine}

-- a file of at most nine bytes is read, and then written over unless it is the empty journal
pub short_leaves : (old mid new : Meaning) (file : List ℕ) → IsTrue old.is_honest
    → old.seen ≡ Some file → Only file old.may_leave → Reads old mid → GoesOn mid new
    → (IsTrue mid.is_honest → mid.seen ≡ Some file → Only file mid.may_leave
    → Leaves mid new (SameOrNine file))
    → Leaves old new (SameOrNine file)
short_leaves old mid new file honest seen only reads goes after =
    let only_mid = reads_only old mid file honest only reads in
    then_leaves old mid new (SameOrNine file)
    (λ c left. inl (reads_leaves old mid file honest only reads c left)) reads.goes goes
    (after (still_honest old mid reads.goes honest) (reads.seen ∙ seen) only_mid)

-- the first sync has succeeded, and what comes after it keeps to the file
module _ (old mid new : Meaning) (file : List ℕ) (honest : IsTrue old.is_honest)
    (seen : old.seen ≡ Some file) (syncs : Syncs old mid) (same : mid.seen ≡ old.seen)
    (durable : IsTrue old.is_honest → IfKnown old.seen (λ f. Only f mid.may_leave)) where
  pub mount_turns : GoesOn mid new
      → (IsTrue mid.is_honest → mid.seen ≡ Some file → Only file mid.may_leave
      → Leaves mid new (SameOrNine file))
      → Turns old new (SameOrNine file)
  mount_turns goes leaves =
      let only = subst (λ o. IfKnown o (λ f. Only f mid.may_leave)) seen (durable honest) in
      synced_turns old mid new (SameOrNine file) honest syncs goes
      (leaves (still_honest old mid syncs.goes honest) (same ∙ seen) only)
