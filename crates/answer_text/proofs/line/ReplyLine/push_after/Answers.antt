use Rattle.std.proofs.lemmas.Result.{on_ok_weaker, on_err_weaker}
use Rattle.answer_text.proofs.Gathered.{on_err, put_too, less_longer, less_after}
use Rattle.answer_text.proofs.line.ReplyLine.push_after.Goals as goal

pub returns-in_err-flush-clause-part : goal.returns-in_err-flush-clause-part
returns-in_err-flush-clause-part g c = on_err _ _ (less_longer _ _ _ _ c.in_err-flush.ensures.part)

pub returns-then-piece-gt-ROOM-clause-all : goal.returns-then-piece-gt-ROOM-clause-all
returns-then-piece-gt-ROOM-clause-all g c =
    on_ok_weaker c.put_all.result (λ q. put_too _ _ _ _ _ _ c.in_ok-flush.ensures.all q
    c.in_ok-flush.ensures.emptied) c.put_all.ensures.all

pub returns-then-piece-gt-ROOM-clause-part : goal.returns-then-piece-gt-ROOM-clause-part
returns-then-piece-gt-ROOM-clause-part g c =
    on_err_weaker c.put_all.result (λ q. less_after _ _ _ _ _ c.in_ok-flush.ensures.all q)
    c.put_all.ensures.part
