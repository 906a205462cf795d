use Rattle.std.proofs.Common.{◌++◌, codes, ◌∙◌}
use Rattle.prima_base.specs.Groups.{amount}
use Rattle.answer_text.specs.Texts.{amount_text}
use Rattle.answer_text.proofs.Gathered.{on_err, more, less_within}
use Rattle.answer_text.proofs.Listed.{next_text, sent_text}
use Rattle.answer_text.proofs.aggregate.push_amounts.Goals as goal

pub returns-in_err-push_amount-clause-part : goal.returns-in_err-push_amount-clause-part
returns-in_err-push_amount-clause-part g c =
    let i = c.loop-value.invariant in
    let e = next_text (λ a. codes " " ++ amount_text a) amount _ _ _ i.0 c.loop-value-test.true
    c.value-item.is i.3 in
    on_err _ _ (less_within _ _ _ _ _ i.0 _ _ _ i.2 c.in_err-push_amount.ensures.part e)

pub loop-value-preserved : goal.loop-value-preserved
loop-value-preserved g c =
    let i = c.loop-value.invariant in (
      _,
      c.in_ok-push_amount.ensures.cause.kept ∙ i.1,
      more _ _ _ _ _ _ _ _ i.2 c.in_ok-push_amount.ensures.all,
      sent_text (λ a. codes " " ++ amount_text a) amount _ _ _ i.0 c.loop-value-test.true
          c.value-item.is i.3,
    )
