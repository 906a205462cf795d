use Rattle.std.proofs.lemmas.Result.{err_from_is_err_and}
use Rattle.command_codec_spec.specs.Reader.{name, two_names, three_names}
use Rattle.command_codec_checker.proofs.Steps.{paired, first_of_pair_halts}
use Rattle.command_codec_checker.proofs.operator.check_three_names.Goals as goal

pub returns-in_err-check_two_names : goal.returns-in_err-check_two_names
unfolding three_names
returns-in_err-check_two_names c =
    let f = err_from_is_err_and c.from_residual.result c.from_residual.ensures.1 in
    rw f.1 (first_of_pair_halts two_names name c.args.reader.now.rest.now
    c.in_err-check_two_names.field-0.0 c.check_two_names.new.reader.rest.now
    c.in_err-check_two_names.ensures)

pub returns : goal.returns
unfolding three_names
returns c = paired two_names name c.args.reader.now.rest.now c.check_two_names.new.reader.rest.now
    c.check_name.result c.check_name.new.reader.rest.now c.in_ok-check_two_names.ensures
    c.check_name.ensures
