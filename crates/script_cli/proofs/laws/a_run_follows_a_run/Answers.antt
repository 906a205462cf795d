use Rattle.std.proofs.Common.{◌++◌, ⊎_elim, inl, inr, ℕ, List, take}
use Rattle.disk_model.specs.Meaning.{Meaning}
use Rattle.disk_model.specs.Moments.{UntilSynced}
use Rattle.disk_model.specs.MomentLaws.{until_weaker}
use Rattle.archive_core_file_spec.specs.LogRecords.{LogRecord}
use Rattle.script_cli.specs.Files.{OpensPrefix, CanBeRun}
use Rattle.script_cli.proofs.laws.a_run_follows_a_run.Goals as goal

-- what holds of each file at the start, and of each from the first sync on, holds of all
follows : (P : List ℕ → Type 0) (old new : Meaning)
    → ((file : List ℕ) → old.may_leave file → P file) → UntilSynced old new P → (file : List ℕ)
    → new.left_since old.moment file → P file
follows P old new first (inl early) file left = first file (early file left)
follows P old new first (inr turns) file left =
    ⊎_elim (first file) (turns.from file) (turns.until file left)

opens : (opening log : List LogRecord) (file : List ℕ) → OpensPrefix opening log file
    → CanBeRun file
opens opening log file prefix = (opening ++ take prefix.0 log, prefix.2)

pub returns-clause-opens : goal.returns-clause-opens
returns-clause-opens g c = λ old new opening due first leaves file left.
    let a = g.D.Disk.meaning old in
    let b = g.D.Disk.meaning new in
    follows CanBeRun a b first (until_weaker a b (OpensPrefix opening leaves.0) CanBeRun leaves.2
    (λ x p. opens opening leaves.0 x p)) file left

pub returns-clause-sound : goal.returns-clause-sound
returns-clause-sound g c = λ old new first until file left.
    follows _ (g.D.Disk.meaning old) (g.D.Disk.meaning new) first until file left
