use Rattle.std.proofs.lemmas.Result.{err_from_is_err_and}
use Rattle.command_codec_spec.specs.Reader.{column_type}
use Rattle.command_codec_checker.proofs.Steps.{passed}
use Rattle.command_codec_checker.proofs.field.check_column_type.Goals as goal

pub returns-in_err-column_type : goal.returns-in_err-column_type
returns-in_err-column_type c =
    let f = err_from_is_err_and c.from_residual.result c.from_residual.ensures.1 in
    rw f.1 c.in_err-column_type.ensures

pub returns : goal.returns
returns c = passed _ (column_type c.args.reader.now.rest.now) c.column_type.new.reader.rest.now
    c.in_ok-column_type.ensures
