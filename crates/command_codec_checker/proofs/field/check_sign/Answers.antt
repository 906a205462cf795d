use Rattle.std.proofs.lemmas.Result.{err_from_is_err_and}
use Rattle.command_codec_spec.specs.Reader.{sign}
use Rattle.command_codec_checker.proofs.Steps.{passed}
use Rattle.command_codec_checker.proofs.field.check_sign.Goals as goal

pub returns-in_err-sign : goal.returns-in_err-sign
returns-in_err-sign c =
    let f = err_from_is_err_and c.from_residual.result c.from_residual.ensures.1 in
    rw f.1 c.in_err-sign.ensures

pub returns : goal.returns
returns c = passed _ (sign c.args.reader.now.rest.now) c.sign.new.reader.rest.now
    c.in_ok-sign.ensures
