use Rattle.relations_spec.proofs.Held.{at_ascends, in_at, held_is_covered}
use Rattle.relations_spec.proofs.moment.held_at_its_moments.Goals as goal

pub returns-clause-ascends : goal.returns-clause-ascends
returns-clause-ascends g c = at_ascends g.T.Ord.cmp

pub returns-clause-members : goal.returns-clause-members
returns-clause-members g c = λ o entries x m.
    let a = in_at g.T.Ord.cmp o entries x m in
    let b = held_is_covered entries x m in
    (λ h. b.0 (a.0 h), λ h. a.1 (b.1 h))
