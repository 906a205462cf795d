use Rattle.std.proofs.Common.{ap, sym, ◌∙◌, length-take-le}
use Rattle.lexer_spec.specs.declared.scan_of.Scanned.TheVariants.{Of}
use Rattle.lexer_spec.proofs.WholeTokens.{again}
use Rattle.lexer_spec.proofs.token.Token.first.Goals as goal

pub invariant_of-result : goal.invariant_of-result
invariant_of-result c = record {
  whole = again c.args.bytes.now c.args.kind c.args.len
      c.requires.token ∙ ap (Of c.args.kind) (sym
      (length-take-le c.args.len c.args.bytes.now c.requires.within));
}
