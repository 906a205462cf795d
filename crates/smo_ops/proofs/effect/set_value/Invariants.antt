use Rattle.std.proofs.Common.{◌≡◌, List, map, drop}
use Rattle.prima_base.specs.Columns.{Column}
use Rattle.prima_base.specs.Order.{shown}
use Rattle.smo_ops_spec.specs.OneRow.{set_value}
use Rattle.smo_ops_types.specs.Changes.{sets_of}
use Rattle.smo_ops.proofs.effect.set_value.Given as goal

abbrev pub invariant-loop-column : goal.invariant-loop-column
invariant-loop-column l = (columns : List Column)
    → set_value columns (map shown l.values) (sets_of l.sets) l.name
    ≡ set_value columns (map shown l.values) (sets_of (drop l.column-index l.sets)) l.name
