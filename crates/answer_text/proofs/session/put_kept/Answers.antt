use Rattle.std.proofs.lemmas.Result.{on_err_weaker}
use Rattle.answer_text.proofs.Gathered.{on_err, less_begun, less_flushed}
use Rattle.answer_text.proofs.session.put_kept.Goals as goal

pub returns-in_err-push_kept-clause-part : goal.returns-in_err-push_kept-clause-part
returns-in_err-push_kept-clause-part g c =
    let part = rw c.values.ensures at c.in_err-push_kept.ensures.part in
    on_err _ _ (less_begun _ _ _ _ c.new-line.ensures part)

pub returns-clause-part : goal.returns-clause-part
returns-clause-part g c =
    let all = rw c.values.ensures at c.in_ok-push_kept.ensures.all in
    on_err_weaker c.flush.result (λ q. less_begun _ _ _ _ c.new-line.ensures
    (less_flushed _ _ _ _ _ _ all q)) c.flush.ensures.part
