use Rattle.std.proofs.Common.{◌≡◌, sym, ap, subst}
use Rattle.smo_ops_types.specs.declared.command.Body.{Body}
use Rattle.smo_ops_types.specs.declared.command.Body.TheVariants.{Changes, Evolve}
use Rattle.smo_ops_types.specs.Commands.{PlainCommand, body_of, command_of}
use Rattle.command_codec_spec.specs.Valid.{HaveOneMember}
use Rattle.command_codec_spec.proofs.OneMember.{ones_of_code}
use Rattle.archive_core_replay.specs.Memory.{accepted_command}
use Rattle.archive_core.proofs.preparation.check_and_seal.Goals as goal

-- each operator of a command of the code has one member
one_each : (body : Body) → HaveOneMember (body_of body)
one_each (Changes changes) = tt
one_each (Evolve op inverse) = ones_of_code op inverse.items

pub seal-requires-clause-valid : goal.seal-requires-clause-valid
seal-requires-clause-valid c =
    let some = c.in-Ok.ensures.represents in
    (c.in-Ok.ensures.checks some.0 some.1).1.stamp

pub seal-requires-clause-writable : goal.seal-requires-clause-writable
seal-requires-clause-writable c =
    let some = c.in-Ok.ensures.represents in
    c.accepted_commands_can_be_written.ensures.past some.0 (accepted_command c.in-Ok.accepted)
    some.1.groups.valid
    (subst (λ (command : PlainCommand). HaveOneMember command.body) (sym c.in-Ok.ensures.same)
    (one_each c.args.command.1))
    (c.in-Ok.ensures.checks some.0 some.1).1.accepted
