use Rattle.std.proofs.lemmas.Result.{err_from_is_err_and}
use Rattle.command_codec_spec.specs.Reading.{pair}
use Rattle.command_codec_spec.specs.Reader.{name, cells}
use Rattle.command_codec_spec.specs.Reader.{insert_of}
use Rattle.command_codec_checker.proofs.Steps.{mapped, mapped_halts, paired, first_of_pair_halts}
use Rattle.command_codec_checker.proofs.command.check_insert.Goals as goal

pub returns-in_err-check_name : goal.returns-in_err-check_name
returns-in_err-check_name c =
    let f = err_from_is_err_and c.from_residual.result c.from_residual.ensures.1 in
    rw f.1 (mapped_halts insert_of (pair name cells)
    c.args.reader.now.rest.now c.in_err-check_name.field-0.0 c.check_name.new.reader.rest.now
    (first_of_pair_halts name cells c.args.reader.now.rest.now c.in_err-check_name.field-0.0
    c.check_name.new.reader.rest.now c.in_err-check_name.ensures))

pub returns : goal.returns
returns c = mapped insert_of (pair name cells) c.args.reader.now.rest.now
    c.check_cells.result c.check_cells.new.reader.rest.now
    (paired name cells c.args.reader.now.rest.now c.check_name.new.reader.rest.now
    c.check_cells.result c.check_cells.new.reader.rest.now c.in_ok-check_name.ensures
    c.check_cells.ensures)
