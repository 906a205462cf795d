use Rattle.smo_ops_spec.proofs.DecomposedTables.{columns_again, rows_again}
use Rattle.smo_ops_spec.proofs.operator_laws.decomposed_and_joined_again.Goals as goal

pub returns-clause-columns : goal.returns-clause-columns
returns-clause-columns c tables r s xs t ys h e = columns_again tables r s xs t ys e h

pub returns-clause-rows : goal.returns-clause-rows
returns-clause-rows c tables r s xs t ys database rows left right h d e is now also =
    rows_again tables r s xs t ys e database rows is left right h d now also
