use Rattle.std.proofs.Common.{◌<◌, arith}
use Rattle.script_parse.proofs.TokenReading.{token_before}
use Rattle.script_parse.proofs.statement_reader.place_of.Goals as goal

pub returns : goal.returns
returns c =
    let some : 0 < c.args.left = omega arith in
    token_before c.args.list.now c.args.left c.args.end c.index-list-list.result some
    c.requires.fits
