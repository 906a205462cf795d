use Rattle.std.specs.Prelude.{Option, Some, None, List, ℕ}
use Rattle.disk_model.specs.Meaning.{IfKnown}
use Rattle.script_cli_statement.specs.ArchiveOnDisk.{Opened}
use Rattle.script_cli.proofs.Counting.{opening_counted}
use Rattle.script_cli.proofs.disk_run.mount_counted.Goals as goal

pub returns-in-Ok-clause-opened : goal.returns-in-Ok-clause-opened
returns-in-Ok-clause-opened g c =
    let it = c.in-Ok.ensures in
    record {
      mounted = tells_counted (g.D.Disk.meaning c.args.disk).seen _ c.in-Ok.opened it.opened;
      represents = it.represents;
      limit_is = it.limit;
      takes = it.whole;
      goes = it.goes;
      unfailed = it.unfailed;
      turns = it.turns;
      holds = it.holds;
      stands = it.stands;
    }
  where
    tells_counted : (seen : Option (List ℕ)) (P : List ℕ → Opened → Type 0) (opened : Opened)
        → IfKnown seen (λ file. P file opened) → IfKnown seen (λ file. (o : Opened) × P file o)
    tells_counted None P opened told = tt
    tells_counted (Some file) P opened told = (opened, told)

pub returns-clause-fault : goal.returns-clause-fault
returns-clause-fault g c =
    let it = c.in-Err.ensures in
    record {
      goes = it.goes_err;
      turns = it.turns_err;
      damaged = it.damaged;
      untouched = it.untouched;
      cause = it.cause;
      unfailed = it.unfailed_err;
    }

pub returns-in-Ok-clause-commands : goal.returns-in-Ok-clause-commands
returns-in-Ok-clause-commands g c = opening_counted c.a_file_opens_or_is_damaged.ensures.one _ _ _ _
    c.in-Ok.ensures.opened
