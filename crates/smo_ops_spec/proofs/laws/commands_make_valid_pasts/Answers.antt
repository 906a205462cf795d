use Rattle.std.specs.Prelude.{None}
use Rattle.smo_ops_spec.specs.Past.{no_tables}
use Rattle.smo_ops_spec.proofs.EvolvedVersions.{accepted_version}
use Rattle.smo_ops_spec.proofs.PastSteps.{beginning_is_past, stamp_accepted, counts_accepted}
use Rattle.smo_ops_spec.proofs.PastSteps.{body_accepted, stays_valid}
use Rattle.smo_ops_spec.proofs.laws.commands_make_valid_pasts.Goals as goal

pub returns-clause-beginning : goal.returns-clause-beginning
returns-clause-beginning c = beginning_is_past

pub returns-clause-step : goal.returns-clause-step
returns-clause-step c = λ past command valid accepted.
    stays_valid past command.stamp command.body valid (stamp_accepted past command accepted)
    (counts_accepted past command accepted) (body_accepted past command accepted)

pub returns-clause-counted : goal.returns-clause-counted
returns-clause-counted c = λ past k v valid e.
    (let is = accepted_version None no_tables past.versions k v valid.evolved e in is.1.counted)

pub returns-clause-accepted : goal.returns-clause-accepted
returns-clause-accepted c = λ past k v valid e.
    (let is = accepted_version None no_tables past.versions k v valid.evolved e in is.1.accepted)

pub returns-clause-inverse : goal.returns-clause-inverse
returns-clause-inverse c = λ past k v valid e.
    (let is = accepted_version None no_tables past.versions k v valid.evolved e in is.1.inverse)

pub returns-clause-evolved : goal.returns-clause-evolved
returns-clause-evolved c = λ past k v valid e.
    (let is = accepted_version None no_tables past.versions k v valid.evolved e in is.1.tables)
