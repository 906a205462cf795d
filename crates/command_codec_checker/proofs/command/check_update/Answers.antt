use Rattle.std.proofs.lemmas.Result.{err_from_is_err_and}
use Rattle.command_codec_spec.specs.Reading.{pair}
use Rattle.command_codec_spec.specs.Reader.{name, sets, outermost}
use Rattle.command_codec_spec.specs.Reader.{update_of}
use Rattle.command_codec_checker.proofs.Steps.{mapped, mapped_halts, paired, both_pass}
use Rattle.command_codec_checker.proofs.Steps.{first_of_pair_halts, second_of_pair_halts}
use Rattle.command_codec_checker.proofs.command.check_update.Goals as goal

pub returns-in_err-check_name : goal.returns-in_err-check_name
returns-in_err-check_name c =
    let f = err_from_is_err_and c.from_residual.result c.from_residual.ensures.1 in
    rw f.1 (mapped_halts update_of
    (pair (pair name sets) (outermost.cond)) c.args.reader.now.rest.now
    c.in_err-check_name.field-0.0 c.check_name.new.reader.rest.now
    (first_of_pair_halts (pair name sets) (outermost.cond) c.args.reader.now.rest.now
    c.in_err-check_name.field-0.0 c.check_name.new.reader.rest.now
    (first_of_pair_halts name sets c.args.reader.now.rest.now c.in_err-check_name.field-0.0
    c.check_name.new.reader.rest.now c.in_err-check_name.ensures)))

pub returns-in_err-check_sets : goal.returns-in_err-check_sets
returns-in_err-check_sets c =
    let f = err_from_is_err_and c.from_residual-in_err-check_sets.result
    c.from_residual-in_err-check_sets.ensures.1 in
    rw f.1 (mapped_halts update_of
    (pair (pair name sets) (outermost.cond)) c.args.reader.now.rest.now
    c.in_err-check_sets.field-0.0 c.check_sets.new.reader.rest.now
    (first_of_pair_halts (pair name sets) (outermost.cond) c.args.reader.now.rest.now
    c.in_err-check_sets.field-0.0 c.check_sets.new.reader.rest.now
    (second_of_pair_halts name sets c.args.reader.now.rest.now c.check_name.new.reader.rest.now
    c.in_err-check_sets.field-0.0 c.check_sets.new.reader.rest.now c.in_ok-check_name.ensures
    c.in_err-check_sets.ensures)))

pub returns : goal.returns
returns c = mapped update_of (pair (pair name sets) (outermost.cond))
    c.args.reader.now.rest.now c.check_outer_cond.result c.check_outer_cond.new.reader.rest.now
    (paired (pair name sets) (outermost.cond) c.args.reader.now.rest.now
    c.check_sets.new.reader.rest.now c.check_outer_cond.result
    c.check_outer_cond.new.reader.rest.now (both_pass name sets c.args.reader.now.rest.now
    c.check_name.new.reader.rest.now c.check_sets.new.reader.rest.now c.in_ok-check_name.ensures
    c.in_ok-check_sets.ensures) c.check_outer_cond.ensures)
