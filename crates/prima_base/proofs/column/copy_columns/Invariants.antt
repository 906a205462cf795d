use Rattle.std.proofs.Common.{◌≡◌, take}
use Rattle.prima_base.proofs.column.copy_columns.Given as goal

abbrev pub invariant-loop-name : goal.invariant-loop-name
invariant-loop-name l = l.copied.items ≡ take l.name-index l.columns
