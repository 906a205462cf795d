-- Calls that change nothing but the count of faults.
use Rattle.std.proofs.Common.{inl, ℕ, ◌≤◌, List, refl, arith}
use Rattle.std.specs.Prelude.{Option, Some, None}
use Rattle.disk_model.specs.Meaning.{Meaning, IsValid, BothKnown, with_faults}
use Rattle.disk_model.specs.Moments.{GoesOn}
use Rattle.disk_model.specs.DeviceCalls.{Torn, Writes, Syncs, Reads}
use Rattle.disk_model.proofs.Shapes.{torn_same}

module _ (d : Meaning) (law : IsValid d) (faults : ℕ) (counts : d.faults ≤ faults) where
  abbrev raised : Meaning
  raised = record {
    seen = d.seen;
    may_leave = d.may_leave;
    moment = d.moment;
    left_since =
        d.left_since;
    faults = faults;
    is_honest = d.is_honest;
    names = d.names;
  }

  pub goes_same : GoesOn d raised
  goes_same = record {
    later = omega arith;
    joins = λ t c le left. inl left;
    keeps =
        λ t c le left. left;
    adds = λ t c le left. law.earlier t c le left;
    counts = counts;
    honest =
        refl;
    same = refl;
  }

  pub reads_same : Reads d raised
  reads_same = record {
    goes = goes_same;
    seen = refl;
    crash = λ honest c left. left;
    during =
        λ honest c left. inl (law.only_now c left);
  }

  pub writes_same : (at n : ℕ) → Writes at n d raised
  writes_same at n = record {
    goes = goes_same;
    seen = told d.seen;
    crash =
        λ honest c left. (c, left, torn_same c at n);
    during =
        λ honest c left. inl (law.only_now c left);
  }
    where
      told : (seen : Option (List ℕ)) → BothKnown (Torn at n) seen seen
      told None = tt
      told (Some file) = torn_same file at n

  pub syncs_same : Syncs d raised
  syncs_same = record {
    goes = goes_same;
    tells = told d.seen;
    crash =
        λ honest c left. left;
    during = λ honest c left. inl (law.only_now c left);
  }
    where
      told : (seen : Option (List ℕ)) → BothKnown (λ _ _. Unit {0}) seen seen
      told None = tt
      told (Some file) = tt

-- a call of a disk inside another, which has a count of its own
module _ (old new : Meaning) (faults faults_2 : ℕ) (counts : faults ≤ faults_2) where
  goes_with : GoesOn old new → GoesOn (with_faults old faults) (with_faults new faults_2)
  goes_with goes = record {
    later = goes.later;
    joins = goes.joins;
    keeps = goes.keeps;
    adds =
        goes.adds;
    counts = counts;
    honest = goes.honest;
    same = goes.same;
  }

  pub reads_with : Reads old new → Reads (with_faults old faults) (with_faults new faults_2)
  reads_with reads = record {
    goes = goes_with reads.goes;
    seen = reads.seen;
    crash =
        reads.crash;
    during = reads.during;
  }

  pub writes_with : (at n : ℕ) → Writes at n old new
      → Writes at n (with_faults old faults) (with_faults new faults_2)
  writes_with at n writes = record {
    goes = goes_with writes.goes;
    seen = writes.seen;
    crash =
        writes.crash;
    during = writes.during;
  }

  pub syncs_with : Syncs old new → Syncs (with_faults old faults) (with_faults new faults_2)
  syncs_with syncs = record {
    goes = goes_with syncs.goes;
    tells = syncs.tells;
    crash =
        syncs.crash;
    during = syncs.during;
  }
