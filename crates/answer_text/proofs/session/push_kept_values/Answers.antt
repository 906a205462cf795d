use Rattle.std.proofs.Common.{◌++◌, codes, ◌∙◌}
use Rattle.smo_parse.specs.TreeTexts.{value_text}
use Rattle.answer_text.proofs.Gathered.{on_err, more, less_within}
use Rattle.answer_text.proofs.Listed.{next_own, sent_own}
use Rattle.answer_text.proofs.session.push_kept_values.Goals as goal

pub returns-in_err-push_value-clause-part : goal.returns-in_err-push_value-clause-part
returns-in_err-push_value-clause-part g c =
    let i = c.loop-value.invariant in
    let e = next_own (λ v. codes " " ++ value_text v) _ _ _ i.0 c.loop-value-test.true
    c.value-item.is i.3 in
    on_err _ _ (less_within _ _ _ _ _ i.0 _ _ _ i.2
    (rw c.lend.ensures.value at c.in_err-push_value.ensures.part) e)

pub loop-value-preserved : goal.loop-value-preserved
loop-value-preserved g c =
    let i = c.loop-value.invariant in (
      _,
      c.in_ok-push_value.ensures.cause.kept ∙ i.1,
      more _ _ _ _ _ _ _ _ i.2 (rw c.lend.ensures.value at c.in_ok-push_value.ensures.all),
      sent_own (λ v. codes " " ++ value_text v) _ _ _ i.0 c.loop-value-test.true
          c.value-item.is i.3,
    )
