-- The fields of what is known of rows.
use Rattle.std.specs.Prelude.{All}
use Rattle.version_groups_changes.specs.declared.pending_row.PendingRows.TheInside.{Inside}
use Rattle.version_groups_changes.specs.PendingChanges.{AreLed}

-- the same rows are known after their values in each column that is asked for
abbrev pub IsKnown : Inside → Type 0
IsKnown k = All (λ led. AreLed led.column k.rows.entries led.rows) k.led.items
