use Rattle.smo_ops_spec.proofs.RelationLaws.{keeps_relation}
use Rattle.smo_ops_spec.proofs.laws.change_keeps_a_relation.Goals as goal

pub returns : goal.returns
returns c = keeps_relation
