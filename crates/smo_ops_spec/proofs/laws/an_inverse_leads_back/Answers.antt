use Rattle.smo_ops_spec.proofs.ValidInverses.{accepted_leads_back}
use Rattle.std.proofs.Common.{refl}
use Rattle.smo_ops_spec.proofs.InverseLaws.{refused_so, missed_so, accepted_so}
use Rattle.smo_ops_spec.proofs.laws.an_inverse_leads_back.Goals as goal

pub returns-clause-refused : goal.returns-clause-refused
returns-clause-refused c = λ before op earlier x later refusal h.
    refused_so before op earlier x later refusal h

pub returns-clause-misses : goal.returns-clause-misses
returns-clause-misses c = λ before op x inverse name h. missed_so before op x inverse name h

pub returns-clause-accepted : goal.returns-clause-accepted
returns-clause-accepted c = λ before op inverse a e. accepted_so before op inverse a e

pub returns-clause-unnamed : goal.returns-clause-unnamed
returns-clause-unnamed c = λ before op. refl

pub returns-clause-leads : goal.returns-clause-leads
returns-clause-leads c = λ before op x inverse e. accepted_leads_back before op x inverse e
