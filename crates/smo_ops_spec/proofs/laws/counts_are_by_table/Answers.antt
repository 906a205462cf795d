use Rattle.schema_catalog.specs.Databases.{Rows}
use Rattle.smo_ops_spec.proofs.CountingLaws.{self_gains_nothing, gained_step, lost_with}
use Rattle.smo_ops_spec.proofs.laws.counts_are_by_table.Goals as goal

pub returns-clause-none : goal.returns-clause-none
returns-clause-none c = λ database. (self_gains_nothing database, self_gains_nothing database)

pub returns-clause-gained : goal.returns-clause-gained
returns-clause-gained c = λ old new t a was now had there.
    gained_step old t (Rows was) (Rows now) new (Rows a) had there

pub returns-clause-lost : goal.returns-clause-lost
returns-clause-lost c = λ old new t a was now had there.
    lost_with new t (Rows was) (Rows now) there old (Rows a) had
