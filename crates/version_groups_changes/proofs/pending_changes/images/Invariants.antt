use Rattle.std.proofs.Common.{◌≡◌, map, take}
use Rattle.relations_spec.specs.Sets.{In}
use Rattle.prima_base.specs.Columns.{IsRow}
use Rattle.smo_ops_types.specs.Changes.{sets_of}
use Rattle.smo_ops_spec.specs.OneRow.{Row, with_sets}
use Rattle.version_groups_changes.proofs.pending_changes.images.Given as goal

abbrev pub invariant-loop-row : goal.invariant-loop-row
invariant-loop-row l = ((row : Row) → In row l.rows → IsRow l.own row)
    → l.images.items ≡ map (with_sets l.own (sets_of l.sets)) (take l.row-index l.rows)
