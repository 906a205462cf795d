use Rattle.std.proofs.lemmas.Result.{err_from_is_err_and}
use Rattle.command_codec_spec.specs.Reader.{name}
use Rattle.command_codec_checker.proofs.Steps.{passed}
use Rattle.command_codec_checker.proofs.field.check_name.Goals as goal

pub returns-in_err-borrowed_name : goal.returns-in_err-borrowed_name
returns-in_err-borrowed_name c =
    let f = err_from_is_err_and c.from_residual.result c.from_residual.ensures.1 in
    rw f.1 c.in_err-borrowed_name.ensures.reads

pub returns : goal.returns
returns c = passed _ (name c.args.reader.now.rest.now) c.borrowed_name.new.reader.rest.now
    c.in_ok-borrowed_name.ensures.reads
