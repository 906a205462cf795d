use Rattle.std.proofs.lemmas.Result.{err_from_is_err_and}
use Rattle.command_codec_spec.specs.Reading.{pair}
use Rattle.command_codec_spec.specs.Reader.{operator, operators}
use Rattle.command_codec_spec.specs.Reader.{evolved}
use Rattle.command_codec_checker.proofs.Steps.{mapped, mapped_halts, paired, first_of_pair_halts}
use Rattle.command_codec_checker.proofs.command.check_evolution.Goals as goal

pub returns-in_err-check_op : goal.returns-in_err-check_op
returns-in_err-check_op c =
    let f = err_from_is_err_and c.from_residual.result c.from_residual.ensures.1 in
    rw f.1 (mapped_halts evolved (pair operator operators)
    c.args.reader.now.rest.now c.in_err-check_op.field-0.0 c.check_op.new.reader.rest.now
    (first_of_pair_halts operator operators c.args.reader.now.rest.now
    c.in_err-check_op.field-0.0 c.check_op.new.reader.rest.now c.in_err-check_op.ensures))

pub returns : goal.returns
returns c = mapped evolved (pair operator operators) c.args.reader.now.rest.now
    c.check_ops.result c.check_ops.new.reader.rest.now
    (paired operator operators c.args.reader.now.rest.now c.check_op.new.reader.rest.now
    c.check_ops.result c.check_ops.new.reader.rest.now c.in_ok-check_op.ensures c.check_ops.ensures)
