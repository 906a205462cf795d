use Rattle.smo_ops_spec.proofs.MemberLaws.{refused_first, accepted_all, all_accepted}
use Rattle.smo_ops_spec.proofs.OneMembers.{one_member_fault}
use Rattle.smo_ops_spec.proofs.laws.a_list_is_refused_by_its_first_refused_member.Goals as goal

pub returns-clause-refused : goal.returns-clause-refused
returns-clause-refused c = refused_first

pub returns-clause-accepted : goal.returns-clause-accepted
returns-clause-accepted c = accepted_all

pub returns-clause-each : goal.returns-clause-each
returns-clause-each c = all_accepted

pub returns-clause-one : goal.returns-clause-one
returns-clause-one c = one_member_fault
