-- A run whose file was not opened, and the counts of one whose file was.
use Rattle.std.proofs.Common.{◌≡◌, inl, inr, ⊎_elim, ℕ, List, refl, ap, subst}
use Rattle.std.specs.Prelude.{Option, Some, None}
use Rattle.std.specs.Io.KnownBytes.{Keeps}
use Rattle.disk_model.specs.Meaning.{Meaning}
use Rattle.script_cli_statement.specs.ArchiveOnDisk.{MountFault}
use Rattle.script_cli_statement.specs.ArchiveOnDisk.mounting
use Rattle.script_cli.specs.Driving.{HasNotOpened, PutsUnopened, status_of_fault}
use Rattle.script_cli.specs.Runs.{NotOpened, ToldUnopened, SourceCounted, DiskCounted}
use Rattle.script_cli.specs.declared.status.Status.{Status}

pub keeps_same : (a : Option (List ℕ)) → Keeps a a
keeps_same None = tt
keeps_same (Some bytes) = refl

module _ (old new : Meaning) where
  told_of : (fault : MountFault) (u w : Option (List ℕ)) (f h : ℕ) → PutsUnopened fault u w f h
      → HasNotOpened old new fault
      → ToldUnopened (status_of_fault fault) u w f h old.seen new.seen
  told_of mounting.Disk u w f h puts has = puts
  told_of (mounting.Damaged place) u w f h puts has =
      (puts, has.damaged place refl, has.untouched place refl)
  told_of mounting.NoMemory u w f h puts has = puts

  pub not_opened : (fault : MountFault) (a u w : Option (List ℕ)) (f h : ℕ)
      → PutsUnopened fault u w f h → HasNotOpened old new fault
      → NotOpened (status_of_fault fault) a a u w f h old new
  not_opened fault a u w f h puts has = record {
    kept = keeps_same a;
    told = told_of fault u w f h puts has;
    disk = ⊎_elim (λ early. inl (ap status_of_fault early.0, early.1)) (λ late. inr late) has.turns;
  }

  pub disk_unopened : (fault : MountFault) → HasNotOpened old new fault
      → DiskCounted (status_of_fault fault) old.faults new.faults
  disk_unopened mounting.Disk has = (has.goes.counts, has.cause refl)
  disk_unopened (mounting.Damaged place) has = has.unfailed (λ e. cc)
  disk_unopened mounting.NoMemory has = has.unfailed (λ e. cc)

pub source_unopened : (fault : MountFault) (n : ℕ) → SourceCounted (status_of_fault fault) n n
source_unopened mounting.Disk n = refl
source_unopened (mounting.Damaged place) n = refl
source_unopened mounting.NoMemory n = refl

pub disk_after : (status : Status) (before between now : ℕ) → between ≡ before
    → DiskCounted status between now → DiskCounted status before now
disk_after status before between now same h = subst (λ n. DiskCounted status n now) same h
