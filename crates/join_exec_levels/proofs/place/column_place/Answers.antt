use Rattle.std.proofs.Common.{sym}
use Rattle.join_exec_spec.proofs.PlaceLaws.{at_each_place}
use Rattle.join_exec_spec.proofs.ColumnTrees.{tree_of_col}
use Rattle.join_exec_levels.proofs.place.column_place.Goals as goal

pub returns-in-Col-clause-value : goal.returns-in-Col-clause-value
returns-in-Col-clause-value c = rw (c.in-Col.is, tree_of_col)
    (at_each_place c.args.columns.now c.in-Col.reference.whose c.in-Col.reference.name
    c.place_of.result (sym c.place_of.ensures))
