use Rattle.std.proofs.lemmas.Result.{err_from_is_err_and}
use Rattle.command_codec_spec.specs.Reader.{name, outermost, set}
use Rattle.command_codec_checker.proofs.Steps.{paired, first_of_pair_halts}
use Rattle.command_codec_checker.proofs.command.check_set.Goals as goal

pub returns-in_err-check_name : goal.returns-in_err-check_name
unfolding set
returns-in_err-check_name c =
    let f = err_from_is_err_and c.from_residual.result c.from_residual.ensures.1 in
    rw f.1 (first_of_pair_halts name (outermost.expr) c.args.reader.now.rest.now
    c.in_err-check_name.field-0.0 c.check_name.new.reader.rest.now c.in_err-check_name.ensures)

pub returns : goal.returns
unfolding set
returns c = paired name (outermost.expr) c.args.reader.now.rest.now c.check_name.new.reader.rest.now
    c.check_outer_expr.result c.check_outer_expr.new.reader.rest.now c.in_ok-check_name.ensures
    c.check_outer_expr.ensures
