use Rattle.script_cli_vault.proofs.Committed.{something}
use Rattle.script_cli_vault.proofs.vault.ArchiveVaultVault.listing.Goals as goal

pub returns-in-Err-Refused-clause-listed : goal.returns-in-Err-Refused-clause-listed
returns-in-Err-Refused-clause-listed g c = λ shared sh.
    rw c.in-Err-Refused.field-0-is at (c.in-Err-Refused.ensures.asked shared.past sh.past)

-- ---- an archive shows something

pub returns-in_ok-kept_rows-in-Ok-clause-known : goal.returns-in_ok-kept_rows-in-Ok-clause-known
returns-in_ok-kept_rows-in-Ok-clause-known g c = something c.args.self.now.archive.now
    c.ask_counted.ensures.represents

pub returns-in_err-kept_rows-in-Ok-clause-known : goal.returns-in_err-kept_rows-in-Ok-clause-known
returns-in_err-kept_rows-in-Ok-clause-known g c = something c.args.self.now.archive.now
    c.ask_counted.ensures.represents

pub returns-in-Err-Refused-clause-known : goal.returns-in-Err-Refused-clause-known
returns-in-Err-Refused-clause-known g c = something c.args.self.now.archive.now
    c.ask_counted.ensures.represents

pub returns-in-Err-NoMemory-clause-known : goal.returns-in-Err-NoMemory-clause-known
returns-in-Err-NoMemory-clause-known g c = something c.args.self.now.archive.now
    c.ask_counted.ensures.represents
