use Rattle.std.proofs.Common.{length, ap, ◌∙◌}
use Rattle.archive_core.specs.State.{Kept}
use Rattle.script_cli_vault.proofs.Committed.{something, newest_shown}
use Rattle.script_cli_vault.proofs.vault.ArchiveVaultVault.newest.Goals as goal

pub returns : goal.returns
returns g c = record {
  newest = λ shared sh. c.newest.ensures
      ∙ ap (λ (k : Kept). length k.versions) c.groups.ensures.groups
      ∙ newest_shown c.args.self.now.archive.now shared sh;
  known = something c.args.self.now.archive.now c.groups.ensures.represents;
}
