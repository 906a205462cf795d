-- How calls follow one another.
use Rattle.std.proofs.Common.{◌≡◌, inl, inr, ⊎_elim, ℕ, List, refl, sym, ◌∙◌, subst}
use Rattle.std.proofs.Common.{arith}
use Rattle.std.proofs.Common.{IsTrue}
use Rattle.disk_model.specs.Meaning.{Meaning, IsValid, Only}
use Rattle.disk_model.specs.Moments.{GoesOn, Leaves, Turns, UntilSynced}
use Rattle.disk_model.specs.DeviceCalls.{Reads, Syncs}

-- nothing is done
pub goes_refl : (d : Meaning) → IsValid d → GoesOn d d
goes_refl d law = record {
  later = omega arith;
  joins = λ t c le left. inl left;
  keeps = λ t c le left. left;
  adds = λ t c le left. law.earlier t c le left;
  counts = omega arith;
  honest = refl;
  same = refl;
}

-- two calls, one after the other, are a call
pub goes_trans : (a b c : Meaning) → GoesOn a b → GoesOn b c → GoesOn a c
goes_trans a b c one two = record {
  later = omega (arith, one.later, two.later);
  joins = λ t f le left. ⊎_elim
      (λ before. ⊎_elim (λ old. inl old) (λ now. inr (two.keeps a.moment f one.later now))
      (one.joins t f le before))
      (λ now. inr (two.adds a.moment f one.later now))
      (two.joins t f (omega (arith, le, one.later)) left);
  keeps = λ t f le left. two.keeps t f (omega (arith, le, one.later)) (one.keeps t f le left);
  adds = λ t f le left. ⊎_elim
      (λ before. two.keeps t f (omega (arith, le, one.later)) (one.adds t f le before))
      (λ now. two.adds t f (omega (arith, le, one.later)) now)
      (two.joins a.moment f one.later left);
  counts = omega (arith, one.counts, two.counts);
  honest = two.honest ∙ one.honest;
  same = two.same ∙ one.same;
}

-- a disk is as honest after a call as it was
pub still_honest : (old new : Meaning) → GoesOn old new → IsTrue old.is_honest
    → IsTrue new.is_honest
still_honest old new goes = subst IsTrue (sym goes.honest)

module _ (old mid new : Meaning) (P : List ℕ → Type 0) where
  -- what a crash leaves of two calls, one after the other
  pub then_leaves : Leaves old mid P → GoesOn old mid → GoesOn mid new → Leaves mid new P
      → Leaves old new P
  then_leaves before one two here c left =
      ⊎_elim (before c) (here c) (two.joins old.moment c one.later left)

  -- what a crash leaves of a call is what it leaves of its last part too
  pub leaves_later : GoesOn old mid → GoesOn mid new → Leaves old new P → Leaves mid new P
  leaves_later one two leaves c left = leaves c (two.adds old.moment c one.later left)

-- what a crash leaves after a call is left by one at a moment of the call
pub leaves_now : (old new : Meaning) (P : List ℕ → Type 0) → IsValid new → GoesOn old new
    → Leaves old new P → (c : List ℕ) → new.may_leave c → P c
leaves_now old new P law goes leaves c left =
    leaves c (law.earlier old.moment c goes.later (law.now c left))

-- what follows a moment goes on
pub turns_then : (old mid new : Meaning) (P Q : List ℕ → Type 0) → GoesOn old mid → Turns old mid P
    → GoesOn mid new → ((c : List ℕ) → P c → Q c) → Leaves mid new Q → Turns old new Q
turns_then old mid new P Q one turns two weaker here = record {
  moment = turns.moment;
  later = turns.later;
  reached = omega (arith, turns.reached, two.later);
  until = λ c left. ⊎_elim
      (λ b. ⊎_elim (λ o. inl o) (λ n. inr (two.keeps turns.moment c turns.reached n))
      (turns.until c b))
      (λ n. inr (two.adds turns.moment c turns.reached n))
      (two.joins old.moment c one.later left);
  from = λ c left. ⊎_elim (λ b. weaker c (turns.from c b)) (here c)
      (two.joins turns.moment c turns.reached left);
}

pub turns_weaker : (old new : Meaning) (P Q : List ℕ → Type 0) → Turns old new P
    → ((c : List ℕ) → P c → Q c) → Turns old new Q
turns_weaker old new P Q turns weaker = record {
  moment = turns.moment;
  later = turns.later;
  reached = turns.reached;
  until = turns.until;
  from = λ c left. weaker c (turns.from c left);
}

-- once its moment has come, a crash now leaves a file that has P
pub turns_now : (old new : Meaning) (P : List ℕ → Type 0) → IsValid new → Turns old new P
    → (c : List ℕ) → new.may_leave c → P c
turns_now old new P law turns c left =
    turns.from c (law.earlier turns.moment c turns.reached (law.now c left))

pub until_weaker : (old new : Meaning) (P Q : List ℕ → Type 0) → UntilSynced old new P
    → ((c : List ℕ) → P c → Q c) → UntilSynced old new Q
until_weaker old new P Q (inl early) weaker = inl early
until_weaker old new P Q (inr late) weaker = inr (turns_weaker old new P Q late weaker)

-- of a disk on which one file alone is left, reading changes nothing
module _ (old new : Meaning) (file : List ℕ) (honest : IsTrue old.is_honest)
    (only : Only file old.may_leave) (reads : Reads old new) where
  pub reads_only : Only file new.may_leave
  reads_only c left = only c (reads.crash honest c left)

  pub reads_leaves : Leaves old new (λ c. c ≡ file)
  reads_leaves c left = ⊎_elim (only c) (reads_only c) (reads.during honest c left)

-- at each moment of a sync a crash leaves what it might have left before it
pub sync_leaves : (old new : Meaning) → IsTrue old.is_honest → Syncs old new
    → Leaves old new old.may_leave
sync_leaves old new honest syncs c left =
    ⊎_elim (λ o. o) (syncs.crash honest c) (syncs.during honest c left)

-- a call that begins with a sync
pub synced_turns : (old mid new : Meaning) (P : List ℕ → Type 0) → IsTrue old.is_honest
    → Syncs old mid → GoesOn mid new → Leaves mid new P → Turns old new P
synced_turns old mid new P honest syncs goes leaves = record {
  moment = mid.moment;
  later = syncs.goes.later;
  reached = goes.later;
  until = λ c left. ⊎_elim (λ b. inl (sync_leaves old mid honest syncs c b)) (λ now. inr now)
      (goes.joins old.moment c syncs.goes.later left);
  from = leaves;
}
