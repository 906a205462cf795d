use Rattle.std.proofs.lemmas.Result.{err_from_is_err_and}
use Rattle.command_codec_spec.specs.Reading.{pair}
use Rattle.command_codec_spec.specs.Reader.{two_names, outermost}
use Rattle.command_codec_spec.specs.Reader.{added_column}
use Rattle.command_codec_checker.proofs.Steps.{mapped, mapped_halts, paired, first_of_pair_halts}
use Rattle.command_codec_checker.proofs.operator.check_added_column.Goals as goal

pub returns-in_err-check_two_names : goal.returns-in_err-check_two_names
returns-in_err-check_two_names c =
    let f = err_from_is_err_and c.from_residual.result c.from_residual.ensures.1 in
    rw f.1 (mapped_halts added_column (pair two_names (outermost.expr))
    c.args.reader.now.rest.now c.in_err-check_two_names.field-0.0
    c.check_two_names.new.reader.rest.now
    (first_of_pair_halts two_names (outermost.expr) c.args.reader.now.rest.now
    c.in_err-check_two_names.field-0.0 c.check_two_names.new.reader.rest.now
    c.in_err-check_two_names.ensures))

pub returns : goal.returns
returns c = mapped added_column (pair two_names (outermost.expr))
    c.args.reader.now.rest.now c.check_outer_expr.result c.check_outer_expr.new.reader.rest.now
    (paired two_names (outermost.expr) c.args.reader.now.rest.now
    c.check_two_names.new.reader.rest.now c.check_outer_expr.result
    c.check_outer_expr.new.reader.rest.now c.in_ok-check_two_names.ensures
    c.check_outer_expr.ensures)
