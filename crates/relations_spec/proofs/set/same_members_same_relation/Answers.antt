use Rattle.relations_spec.proofs.SetLaws.{one_list}
use Rattle.relations_spec.proofs.set.same_members_same_relation.Goals as goal

pub returns : goal.returns
returns g c = one_list g.T.Ord.cmp
