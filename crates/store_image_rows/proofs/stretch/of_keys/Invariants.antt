use Rattle.std.proofs.Common.{◌≡◌, ◌++◌, drop}
use Rattle.store_image_rows.specs.Stretches.{row_stretches, bare_from}
use Rattle.store_image_rows.proofs.stretch.of_keys.Given as goal

abbrev pub invariant-loop-id : goal.invariant-loop-id
invariant-loop-id l = row_stretches l.stretches.items ++ bare_from l.id (drop l.id l.keys)
    ≡ bare_from 0 l.keys
