use Rattle.std.proofs.Common.{◌≡◌, ℕ, ap, sym, subst, ◌∙◌}
use Rattle.std.specs.Result.{IfOk}
use Rattle.prima_base.specs.Faults.{IsTested}
use Rattle.smo_ops_spec.specs.First.{first_refusal}
use Rattle.smo_ops_types.specs.Commands.{body_of, command_of}
use Rattle.smo_ops_types.specs.declared.command.Body.{Body}
use Rattle.smo_ops_spec.specs.Counts.{first_excess}
use Rattle.smo_ops_spec.specs.Accepts.{count_fault, stamp_fault, body_tests}
use Rattle.version_groups.specs.Steps.{a_command}
use Rattle.archive_core_state.specs.AcceptedCommands.{accepted_command}
use Rattle.archive_core_state.proofs.Checking.{no_excess, checked_after, answers}
use Rattle.archive_core_state.proofs.acceptance.check.Goals as goal

pub check_body-requires-clause-counted : goal.check_body-requires-clause-counted
check_body-requires-clause-counted c =
    ap (λ b. first_excess (body_of b)) c.into_body.ensures
    ∙ no_excess (first_excess (body_of c.args.command.1))
    c.in_ok-check_command_counts.ensures.counts

pub returns-clause-same : goal.returns-clause-same
returns-clause-same c =
    subst (λ (n : ℕ). IfOk c.check_body.result (λ checked. accepted_command checked
    ≡ a_command n (body_of c.args.command.1))) c.stamp-stamp.ensures.value
    (subst (λ (b : Body). IfOk c.check_body.result (λ checked. accepted_command checked
    ≡ a_command c.stamp-stamp.result (body_of b))) c.into_body.ensures c.check_body.ensures.same)

pub returns-clause-checks : goal.returns-clause-checks
returns-clause-checks c past represents last =
    answers past (command_of c.args.command) c.check_body.result
    (checked_after (count_fault (first_excess (body_of c.args.command.1)))
    (stamp_fault past.last c.args.command.0)
    (body_tests past (body_of c.args.command.1)) c.check_body.result
    c.in_ok-check_command_counts.ensures.counts
    (ap (λ l. stamp_fault l c.args.command.0) (sym last)
    ∙ ap (stamp_fault c.args.last) (sym c.stamp-stamp.ensures.value) ∙ c.in_ok-check_stamp.ensures)
    (subst (λ b. IsTested (first_refusal (body_tests past (body_of b))) c.check_body.result)
    c.into_body.ensures (c.check_body.ensures.tested past represents)))
    (returns-clause-same c) (c.check_body.ensures.found past represents) c.stamp-stamp.ensures.valid
    c.in_ok-check_command_counts.ensures.constants
