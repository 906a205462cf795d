use Rattle.std.proofs.lemmas.Result.{err_from_is_err_and}
use Rattle.command_codec_spec.specs.Reading.{digits, pair}
use Rattle.command_codec_spec.specs.Reader.{a_command, body, command}
use Rattle.command_codec_checker.proofs.Steps.{passed, mapped, mapped_halts, paired}
use Rattle.command_codec_checker.proofs.Steps.{first_of_pair_halts}
use Rattle.command_codec_checker.proofs.command.check_command.Goals as goal

pub returns-in_err-number : goal.returns-in_err-number
unfolding command
returns-in_err-number c =
    let f = err_from_is_err_and c.from_residual.result c.from_residual.ensures.1 in
    rw f.1 (mapped_halts a_command (pair (digits 18446744073709551614 8 0) body)
    c.args.reader.now.rest.now c.in_err-number.field-0.0 c.number.new.self.rest.now
    (first_of_pair_halts (digits 18446744073709551614 8 0) body c.args.reader.now.rest.now
    c.in_err-number.field-0.0 c.number.new.self.rest.now
    c.in_err-number.ensures))

pub returns : goal.returns
unfolding command
returns c = mapped a_command (pair (digits 18446744073709551614 8 0) body)
    c.args.reader.now.rest.now c.check_body.result c.check_body.new.reader.rest.now
    (paired (digits 18446744073709551614 8 0) body c.args.reader.now.rest.now
    c.number.new.self.rest.now c.check_body.result c.check_body.new.reader.rest.now
    (passed c.in_ok-number.field-0 (digits 18446744073709551614 8 0 c.args.reader.now.rest.now)
    c.number.new.self.rest.now c.in_ok-number.ensures) c.check_body.ensures)
