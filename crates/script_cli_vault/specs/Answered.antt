-- What an archive answers to a session's command, in the words of sessions.
use Rattle.std.specs.Prelude.{Result, Ok, Err}
use Rattle.archive_core.specs.State.{Done}
use Rattle.archive_core.specs.declared.fault.CommitFault.{CommitFault}
use Rattle.archive_core.specs.declared.fault.CommitFault.TheVariants as commit
use Rattle.sessions.specs.declared.vault.VaultDone.{VaultDone}
use Rattle.sessions.specs.declared.vault.VaultFault.{VaultFault}
use Rattle.sessions.specs.declared.vault.VaultFault.TheVariants as fault

abbrev pub fault_of : CommitFault → VaultFault
fault_of (commit.Refused r) = fault.Refused r
fault_of commit.Broken = fault.Broken
fault_of commit.Disk = fault.Disk
fault_of commit.NoMemory = fault.NoMemory

abbrev pub done_of : Done → VaultDone
done_of done = record { stamp = done.stamp; gained = done.gained; lost = done.lost }

abbrev pub answer_of : Result Done CommitFault → Result VaultDone VaultFault
answer_of (Ok done) = Ok (done_of done)
answer_of (Err e) = Err (fault_of e)
