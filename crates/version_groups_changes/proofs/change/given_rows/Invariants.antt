use Rattle.std.proofs.Common.{◌≡◌, ◌++◌, drop}
use Rattle.std.specs.Option.{option_map}
use Rattle.smo_ops_spec.specs.Inserting.{insertions}
use Rattle.version_groups_changes.specs.Changing.{borrowed_changes}
use Rattle.version_groups_changes.proofs.change.given_rows.Given as goal

abbrev pub invariant-loop-change : goal.invariant-loop-change
invariant-loop-change l = insertions l.columns (borrowed_changes l.changes)
    ≡ option_map (λ more. l.rows.items ++ more)
    (insertions l.columns (borrowed_changes (drop l.change-index l.changes)))
