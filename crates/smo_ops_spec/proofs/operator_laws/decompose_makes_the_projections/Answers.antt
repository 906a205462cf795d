use Rattle.smo_ops_spec.proofs.DecomposedTables.{first_projection, second_projection}
use Rattle.smo_ops_spec.proofs.operator_laws.decompose_makes_the_projections.Goals as goal

pub returns-clause-first : goal.returns-clause-first
returns-clause-first c tables r s xs t ys database rows made e is now =
    first_projection tables r s xs t ys e database rows is made now

pub returns-clause-second : goal.returns-clause-second
returns-clause-second c tables r s xs t ys database rows made e is now =
    second_projection tables r s xs t ys e database rows is made now
