use Rattle.std.proofs.Common.{◌≡◌, map, take}
use Rattle.prima_base.specs.Order.{shown}
use Rattle.script_cli_vault.proofs.kept_row.row_of.Given as goal

abbrev pub invariant-loop-val : goal.invariant-loop-val
invariant-loop-val l = l.copied.items ≡ map shown (take l.val-index l.values)
