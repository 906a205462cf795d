-- A call over a borrowed disk is one of the disk: the reference adds its name and nothing else.
use Rattle.std.proofs.Common.{◌≡◌, inl, inr, ℕ, List, get_or, drop, ap}
use Rattle.disk_model.specs.Meaning.{Meaning, borrowed_as}
use Rattle.disk_model.specs.Moments.{GoesOn, Turns, UntilSynced}

module _ (name other : ℕ) (old new : Meaning) where
  -- what comes back is the reference that was borrowed
  pub same_reference : GoesOn (borrowed_as name old) (borrowed_as other new) → other ≡ name
  same_reference goes = ap (λ (l : List ℕ). get_or l 0 0) goes.same

  pub borrowed_goes : GoesOn (borrowed_as name old) (borrowed_as other new) → GoesOn old new
  borrowed_goes goes = record {
    later = goes.later;
    joins = goes.joins;
    keeps = goes.keeps;
    adds = goes.adds;
    counts = goes.counts;
    honest = goes.honest;
    same = ap (λ (l : List ℕ). drop 1 l) goes.same;
  }

  pub borrowed_turns : (P : List ℕ → Type 0)
      → Turns (borrowed_as name old) (borrowed_as other new) P → Turns old new P
  borrowed_turns P turns = record {
    moment = turns.moment;
    later = turns.later;
    reached = turns.reached;
    until = turns.until;
    from = turns.from;
  }

  pub borrowed_until : (P : List ℕ → Type 0)
      → UntilSynced (borrowed_as name old) (borrowed_as other new) P → UntilSynced old new P
  borrowed_until P (inl early) = inl early
  borrowed_until P (inr late) = inr (borrowed_turns P late)
