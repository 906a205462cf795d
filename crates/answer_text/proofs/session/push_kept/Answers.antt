use Rattle.std.proofs.Common.{codes, append_assoc}
use Rattle.std.proofs.lemmas.Result.{on_ok_weaker, on_err_weaker}
use Rattle.answer_text.specs.Texts.{head_text, values_text}
use Rattle.answer_text.proofs.Gathered.{on_err, more, less_longer, less_within, less_gathered}
use Rattle.answer_text.proofs.session.push_kept.Goals as goal

pub returns-in_err-push_head-clause-part : goal.returns-in_err-push_head-clause-part
returns-in_err-push_head-clause-part g c = on_err _ _
    (less_longer _ _ _ _ c.in_err-push_head.ensures.part)

pub returns-in_err-push_kept_values-clause-part : goal.returns-in_err-push_kept_values-clause-part
returns-in_err-push_kept_values-clause-part g c =
    let p = c.in_ok-push_head.ensures.all in
    let h = head_text c.args.periods c.args.period.start c.args.period.end in
    let v = values_text c.args.values.now in
    on_err _ _ (less_within _ _ _ _ _ h v (codes "\n") _ p c.in_err-push_kept_values.ensures.part
    (append_assoc h v (codes "\n")))

pub returns-clause-all : goal.returns-clause-all
returns-clause-all g c =
    let p = more _ _ _ _ _ _ _ _ c.in_ok-push_head.ensures.all c.in_ok-push_kept_values.ensures.all
    in on_ok_weaker c.push.result (more _ _ _ _ _ _ _ (codes "\n") p) c.push.ensures.all

pub returns-clause-part : goal.returns-clause-part
returns-clause-part g c =
    let p = more _ _ _ _ _ _ _ _ c.in_ok-push_head.ensures.all c.in_ok-push_kept_values.ensures.all
    in on_err_weaker c.push.result (less_gathered _ _ _ _ _ _ (codes "\n") p) c.push.ensures.part
