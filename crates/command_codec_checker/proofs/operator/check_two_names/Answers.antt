use Rattle.std.proofs.lemmas.Result.{err_from_is_err_and}
use Rattle.command_codec_spec.specs.Reader.{name, two_names}
use Rattle.command_codec_checker.proofs.Steps.{paired, first_of_pair_halts}
use Rattle.command_codec_checker.proofs.operator.check_two_names.Goals as goal

pub returns-in_err-check_name : goal.returns-in_err-check_name
unfolding two_names
returns-in_err-check_name c =
    let f = err_from_is_err_and c.from_residual.result c.from_residual.ensures.1 in
    rw f.1 (first_of_pair_halts name name c.args.reader.now.rest.now
    c.in_err-check_name.field-0.0 c.check_name.new.reader.rest.now c.in_err-check_name.ensures)

pub returns : goal.returns
unfolding two_names
returns c = paired name name c.args.reader.now.rest.now c.check_name.new.reader.rest.now
    c.check_name-2.result c.check_name-2.new.reader.rest.now c.in_ok-check_name.ensures
    c.check_name-2.ensures
