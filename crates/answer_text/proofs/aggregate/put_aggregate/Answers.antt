use Rattle.std.proofs.lemmas.Result.{on_ok_weaker, on_err_weaker}
use Rattle.answer_text.proofs.Gathered.{on_err, all_put, less_begun, less_flushed}
use Rattle.answer_text.proofs.aggregate.put_aggregate.Goals as goal

pub returns-in_err-push_aggregate-clause-part : goal.returns-in_err-push_aggregate-clause-part
returns-in_err-push_aggregate-clause-part g c = on_err _ _
    (less_begun _ _ _ _ c.new-line.ensures c.in_err-push_aggregate.ensures.part)

pub returns-clause-part : goal.returns-clause-part
returns-clause-part g c =
    on_err_weaker c.flush.result (λ q. less_begun _ _ _ _ c.new-line.ensures
    (less_flushed _ _ _ _ _ _ c.in_ok-push_aggregate.ensures.all q)) c.flush.ensures.part
