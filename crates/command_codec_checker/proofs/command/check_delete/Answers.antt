use Rattle.std.proofs.lemmas.Result.{err_from_is_err_and}
use Rattle.command_codec_spec.specs.Reading.{pair}
use Rattle.command_codec_spec.specs.Reader.{name, outermost}
use Rattle.command_codec_spec.specs.Reader.{delete_of}
use Rattle.command_codec_checker.proofs.Steps.{mapped, mapped_halts, paired, first_of_pair_halts}
use Rattle.command_codec_checker.proofs.command.check_delete.Goals as goal

pub returns-in_err-check_name : goal.returns-in_err-check_name
returns-in_err-check_name c =
    let f = err_from_is_err_and c.from_residual.result c.from_residual.ensures.1 in
    rw f.1 (mapped_halts delete_of (pair name (outermost.cond))
    c.args.reader.now.rest.now c.in_err-check_name.field-0.0 c.check_name.new.reader.rest.now
    (first_of_pair_halts name (outermost.cond) c.args.reader.now.rest.now
    c.in_err-check_name.field-0.0 c.check_name.new.reader.rest.now c.in_err-check_name.ensures))

pub returns : goal.returns
returns c = mapped delete_of (pair name (outermost.cond)) c.args.reader.now.rest.now
    c.check_outer_cond.result c.check_outer_cond.new.reader.rest.now
    (paired name (outermost.cond) c.args.reader.now.rest.now c.check_name.new.reader.rest.now
    c.check_outer_cond.result c.check_outer_cond.new.reader.rest.now c.in_ok-check_name.ensures
    c.check_outer_cond.ensures)
