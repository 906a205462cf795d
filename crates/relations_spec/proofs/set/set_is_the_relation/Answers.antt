use Rattle.relations_spec.proofs.SetLaws.{set_ascends, in_set, from_set}
use Rattle.relations_spec.proofs.set.set_is_the_relation.Goals as goal

pub returns-clause-ascends : goal.returns-clause-ascends
returns-clause-ascends g c = set_ascends g.T.Ord.cmp

pub returns-clause-members : goal.returns-clause-members
returns-clause-members g c = λ exact xs x. (
  from_set g.T.Ord.cmp exact x xs,
  in_set g.T.Ord.cmp exact x xs,
)
