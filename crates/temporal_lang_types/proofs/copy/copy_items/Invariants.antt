use Rattle.std.proofs.Common.{◌≡◌, take}
use Rattle.temporal_lang_types.proofs.copy.copy_items.Given as goal

abbrev pub invariant-loop-table : goal.invariant-loop-table
invariant-loop-table l = l.copied.items ≡ take l.table-index l.items
