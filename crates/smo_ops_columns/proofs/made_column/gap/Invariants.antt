use Rattle.std.proofs.Common.{◌≡◌, ◌++◌, take, drop}
use Rattle.relations_spec.specs.Sets.{put_in}
use Rattle.prima_base.specs.declared.value.ColType.{ColType}
use Rattle.smo_ops_spec.specs.Making.{column_cmp}
use Rattle.smo_ops_columns.proofs.made_column.gap.Given as goal

abbrev pub invariant-loop-i : goal.invariant-loop-i
invariant-loop-i l = (kind : ColType) → put_in column_cmp (l.name, kind) l.columns
    ≡ take l.i l.columns ++ put_in column_cmp (l.name, kind) (drop l.i l.columns)
