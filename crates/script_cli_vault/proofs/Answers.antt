-- The answers of an archive, in the words of sessions, tell what the archive's tell.
use Rattle.std.proofs.Common.{◌≡◌, refl, Result, Ok, Err}
use Rattle.archive_core.specs.State.{Done}
use Rattle.archive_core.specs.declared.fault.CommitFault.{CommitFault}
use Rattle.archive_core.specs.declared.fault.CommitFault.TheVariants as commit
use Rattle.sessions.specs.declared.vault.VaultFault.TheVariants as fault
use Rattle.script_cli_vault.specs.Answered.{answer_of}

pub was_broken : (r : Result Done CommitFault) → answer_of r ≡ Err fault.Broken
    → r ≡ Err commit.Broken
was_broken (Ok done) e = absurd (cc)
was_broken (Err (commit.Refused r)) e = absurd (cc)
was_broken (Err commit.Broken) e = refl
was_broken (Err commit.Disk) e = absurd (cc)
was_broken (Err commit.NoMemory) e = absurd (cc)

pub had_failed : (r : Result Done CommitFault) → answer_of r ≡ Err fault.Disk
    → r ≡ Err commit.Disk
had_failed (Ok done) e = absurd (cc)
had_failed (Err (commit.Refused r)) e = absurd (cc)
had_failed (Err commit.Broken) e = absurd (cc)
had_failed (Err commit.Disk) e = refl
had_failed (Err commit.NoMemory) e = absurd (cc)
