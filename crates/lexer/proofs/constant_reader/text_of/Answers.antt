use Rattle.std.proofs.Common.{List, ℕ, sym, ap, ◌∙◌, subst}
use Rattle.prima_base.specs.Bytes.{IsTxt}
use Rattle.lexer_spec.specs.Bytes.{text_value}
use Rattle.lexer_spec.proofs.Cuts.{tail_is}
use Rattle.lexer_spec.proofs.Valid.{texted}
use Rattle.lexer.proofs.constant_reader.text_of.Goals as goal

pub owning-requires : goal.owning-requires
owning-requires c =
    let P : List ℕ → Type 0 = λ l. IsTxt l in
    let e = c.in_ok-bytes.ensures.ok ∙ ap text_value (tail_is c.args.literal.now 1) in
    let t = texted c.args.literal.now c.requires in
    subst P (sym e) t.1
