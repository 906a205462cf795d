use Rattle.std.proofs.Common.{◌≡◌, take}
use Rattle.prima_base.specs.Timed.{entries_of}
use Rattle.sessions.specs.Kept.{kept_entries}
use Rattle.script_cli_vault.proofs.kept_row.kept_rows.Given as goal

abbrev pub invariant-loop-index : goal.invariant-loop-index
invariant-loop-index l = kept_entries l.kept.items ≡ entries_of (take l.index l.rows.items)
