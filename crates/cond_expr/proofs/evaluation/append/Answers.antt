use Rattle.std.proofs.Common.{arith, sym, subst}
use Rattle.std.proofs.lemmas.Grind.{common_steps}
use Rattle.prima_base.specs.Bytes.{IsTxt}
use Rattle.cond_expr.proofs.TextLaws.{what_fits, joined_is_text}
use Rattle.prima_base.specs.Order.{bytes_of, shown}
use Rattle.cond_expr.proofs.evaluation.append.Goals as goal

pub returns-clause-bytes : goal.returns-clause-bytes
returns-clause-bytes c =
    let w = what_fits 4096 c.args.joined.now.items (bytes_of (shown c.args.v.now))
    c.requires.room in
    grind (arith, common_steps, w)

pub returns-clause-text : goal.returns-clause-text
returns-clause-text c =
    subst IsTxt (sym (returns-clause-bytes c))
    (joined_is_text c.args.joined.now.items (shown c.args.v.now) c.requires.text
    c.requires.valid)
