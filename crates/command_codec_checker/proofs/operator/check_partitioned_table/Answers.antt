use Rattle.std.proofs.lemmas.Result.{err_from_is_err_and}
use Rattle.command_codec_spec.specs.Reading.{pair}
use Rattle.command_codec_spec.specs.Reader.{name, two_names, outermost, partition_of}
use Rattle.command_codec_checker.proofs.Steps.{mapped, mapped_halts, paired, both_pass}
use Rattle.command_codec_checker.proofs.Steps.{first_of_pair_halts, second_of_pair_halts}
use Rattle.command_codec_checker.proofs.operator.check_partitioned_table.Goals as goal

pub returns-in_err-check_two_names : goal.returns-in_err-check_two_names
returns-in_err-check_two_names c =
    let f = err_from_is_err_and c.from_residual.result c.from_residual.ensures.1 in
    rw f.1 (mapped_halts partition_of (pair (pair two_names (outermost.cond)) name)
    c.args.reader.now.rest.now
    c.in_err-check_two_names.field-0.0 c.check_two_names.new.reader.rest.now
    (first_of_pair_halts (pair two_names (outermost.cond)) name c.args.reader.now.rest.now
    c.in_err-check_two_names.field-0.0 c.check_two_names.new.reader.rest.now
    (first_of_pair_halts two_names (outermost.cond) c.args.reader.now.rest.now
    c.in_err-check_two_names.field-0.0 c.check_two_names.new.reader.rest.now
    c.in_err-check_two_names.ensures)))

pub returns-in_err-check_outer_cond : goal.returns-in_err-check_outer_cond
returns-in_err-check_outer_cond c =
    let f = err_from_is_err_and c.from_residual-in_err-check_outer_cond.result
    c.from_residual-in_err-check_outer_cond.ensures.1 in
    rw f.1 (mapped_halts partition_of (pair (pair two_names (outermost.cond)) name)
    c.args.reader.now.rest.now
    c.in_err-check_outer_cond.field-0.0 c.check_outer_cond.new.reader.rest.now
    (first_of_pair_halts (pair two_names (outermost.cond)) name c.args.reader.now.rest.now
    c.in_err-check_outer_cond.field-0.0 c.check_outer_cond.new.reader.rest.now
    (second_of_pair_halts two_names (outermost.cond) c.args.reader.now.rest.now
    c.check_two_names.new.reader.rest.now c.in_err-check_outer_cond.field-0.0
    c.check_outer_cond.new.reader.rest.now c.in_ok-check_two_names.ensures
    c.in_err-check_outer_cond.ensures)))

pub returns : goal.returns
returns c = mapped partition_of (pair (pair two_names (outermost.cond)) name)
    c.args.reader.now.rest.now c.check_name.result
    c.check_name.new.reader.rest.now (paired (pair two_names (outermost.cond)) name
    c.args.reader.now.rest.now c.check_outer_cond.new.reader.rest.now c.check_name.result
    c.check_name.new.reader.rest.now (both_pass two_names (outermost.cond)
    c.args.reader.now.rest.now c.check_two_names.new.reader.rest.now
    c.check_outer_cond.new.reader.rest.now c.in_ok-check_two_names.ensures
    c.in_ok-check_outer_cond.ensures) c.check_name.ensures)
