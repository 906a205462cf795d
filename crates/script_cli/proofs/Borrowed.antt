-- A run over a borrowed disk is one of the disk: the reference adds its name and nothing else.
use Rattle.std.proofs.Common.{inl, inr, ⊎_elim, ℕ, List}
use Rattle.std.specs.Prelude.{Option}
use Rattle.disk_model.specs.Meaning.{Meaning, borrowed_as}
use Rattle.disk_model.specs.BorrowLaws.{borrowed_turns}
use Rattle.journal.specs.Mounting.{SameOrNine, KeepsFile}
use Rattle.archive_core_file_spec.specs.LogRecords.{LogRecord}
use Rattle.script_cli_statement.specs.Given.{Given}
use Rattle.script_cli.specs.Files.{OpensPrefix}
use Rattle.script_cli.specs.Runs.{NotOpened, OnDisk, RunsOver, logged_in}
use Rattle.script_cli.specs.declared.status.Status.{Status}

module _ (name other : ℕ) (old new : Meaning) where
  keeps_borrowed : KeepsFile (borrowed_as name old) (borrowed_as other new) → KeepsFile old new
  keeps_borrowed keeps file honest seen = borrowed_turns name other old new (SameOrNine file)
      (keeps file honest seen)

  pub not_opened_borrowed : (status : Status) (a c u w : Option (List ℕ)) (f h : ℕ)
      → NotOpened status a c u w f h (borrowed_as name old) (borrowed_as other new)
      → NotOpened status a c u w f h old new
  not_opened_borrowed status a c u w f h n = record {
    kept = n.kept;
    told = n.told;
    disk = ⊎_elim (λ early. inl early) (λ late. inr (keeps_borrowed late)) n.disk;
  }

  on_disk_borrowed : (status : Status) (done log : List LogRecord)
      → OnDisk status done log (borrowed_as name old) (borrowed_as other new)
      → OnDisk status done log old new
  on_disk_borrowed status done log d = record {
    any_moment = λ file opening honest seen opens.
        borrowed_turns name other old new (OpensPrefix opening log)
        (d.any_moment file opening honest seen opens);
    exit = d.exit;
    given = d.given;
    holds = d.holds;
  }

  pub runs_borrowed : (limit : Given) (status : Status) (a c u w : Option (List ℕ)) (f h : ℕ)
      → RunsOver limit status a c u w f h (borrowed_as name old) (borrowed_as other new)
      → RunsOver limit status a c u w f h old new
  runs_borrowed limit status a c u w f h (inl n) = inl (not_opened_borrowed status a c u w f h n)
  runs_borrowed limit status a c u w f h (inr r) = inr (record {
    start = r.start;
    opened = r.opened;
    fresh = r.fresh;
    ran = r.ran;
    log = r.log;
    disk = on_disk_borrowed status r.log.done (logged_in r.log) r.disk;
  })
