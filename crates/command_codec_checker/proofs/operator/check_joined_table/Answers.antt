use Rattle.std.proofs.lemmas.Result.{err_from_is_err_and}
use Rattle.command_codec_spec.specs.Reading.{pair}
use Rattle.command_codec_spec.specs.Reader.{three_names, outermost, joined_tables}
use Rattle.command_codec_checker.proofs.Steps.{mapped, mapped_halts, paired, first_of_pair_halts}
use Rattle.command_codec_checker.proofs.operator.check_joined_table.Goals as goal

pub returns-in_err-check_three_names : goal.returns-in_err-check_three_names
returns-in_err-check_three_names c =
    let f = err_from_is_err_and c.from_residual.result c.from_residual.ensures.1 in
    rw f.1 (mapped_halts joined_tables (pair three_names (outermost.cond))
    c.args.reader.now.rest.now
    c.in_err-check_three_names.field-0.0 c.check_three_names.new.reader.rest.now
    (first_of_pair_halts three_names (outermost.cond) c.args.reader.now.rest.now
    c.in_err-check_three_names.field-0.0 c.check_three_names.new.reader.rest.now
    c.in_err-check_three_names.ensures))

pub returns : goal.returns
returns c = mapped joined_tables (pair three_names (outermost.cond))
    c.args.reader.now.rest.now c.check_outer_cond.result c.check_outer_cond.new.reader.rest.now
    (paired three_names (outermost.cond) c.args.reader.now.rest.now
    c.check_three_names.new.reader.rest.now c.check_outer_cond.result
    c.check_outer_cond.new.reader.rest.now c.in_ok-check_three_names.ensures
    c.check_outer_cond.ensures)
