use Rattle.std.proofs.Common.{◌≡◌, sym, ap, subst}
use Rattle.version_groups.specs.Installing.{HasStep}
use Rattle.version_groups.specs.Steps.{step_of, PlainPreparedCommand, IsStep}
use Rattle.version_groups.proofs.groups.Groups.install.Goals as goal

pub install_step-requires : goal.install_step-requires
install_step-requires c =
    let past = c.requires.0 in
    let command = c.requires.1 in
    let ready = c.requires.3 in
    let is : step_of c.args.prepared.step ≡ step_of c.prepared.inside.step =
    ap (λ (r : PlainPreparedCommand). step_of r.step) (sym c.prepared.view_is) in (
      past,
      command,
      c.requires.2,
      ready.accepted,
      ready.valid,
      ready.constants,
      subst (IsStep c.args.self.now past command.stamp command.body) is ready.step,
    )

pub returns-clause-represents : goal.returns-clause-represents
returns-clause-represents c = λ past command represents ready.
    let is : step_of c.args.prepared.step ≡ step_of c.prepared.inside.step =
    ap (λ (r : PlainPreparedCommand). step_of r.step) (sym c.prepared.view_is) in
    c.install_step.ensures.represents past command represents ready.accepted ready.valid
    ready.constants
    (subst (IsStep c.args.self.now past command.stamp command.body) is ready.step)

pub returns-clause-step : goal.returns-clause-step
returns-clause-step c = subst (HasStep c.args.self.now c.install_step.new.self)
    (ap (λ (r : PlainPreparedCommand). r.step) c.prepared.view_is) c.install_step.ensures.step
