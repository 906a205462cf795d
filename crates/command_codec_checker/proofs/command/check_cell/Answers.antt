use Rattle.std.proofs.lemmas.Result.{err_from_is_err_and}
use Rattle.command_codec_spec.specs.Reader.{name, value, cell}
use Rattle.command_codec_checker.proofs.Steps.{paired, first_of_pair_halts}
use Rattle.command_codec_checker.proofs.command.check_cell.Goals as goal

pub returns-in_err-check_name : goal.returns-in_err-check_name
unfolding cell
returns-in_err-check_name c =
    let f = err_from_is_err_and c.from_residual.result c.from_residual.ensures.1 in
    rw f.1 (first_of_pair_halts name value c.args.reader.now.rest.now
    c.in_err-check_name.field-0.0 c.check_name.new.reader.rest.now c.in_err-check_name.ensures)

pub returns : goal.returns
unfolding cell
returns c = paired name value c.args.reader.now.rest.now c.check_name.new.reader.rest.now
    c.check_value.result c.check_value.new.reader.rest.now c.in_ok-check_name.ensures
    c.check_value.ensures
