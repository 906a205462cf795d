use Rattle.std.proofs.lemmas.Result.{err_from_is_err_and}
use Rattle.command_codec_spec.specs.Reader.{value}
use Rattle.command_codec_checker.proofs.Steps.{passed}
use Rattle.command_codec_checker.proofs.field.check_value.Goals as goal

pub returns-in_err-borrowed_value : goal.returns-in_err-borrowed_value
returns-in_err-borrowed_value c =
    let f = err_from_is_err_and c.from_residual.result c.from_residual.ensures.1 in
    rw f.1 c.in_err-borrowed_value.ensures.reads

pub returns : goal.returns
returns c = passed _ (value c.args.reader.now.rest.now) c.borrowed_value.new.reader.rest.now
    c.in_ok-borrowed_value.ensures.reads
