use Rattle.std.proofs.Common.{◌++◌, sym, ap, ◌∙◌, append_assoc, append-nil, arith, []}
use Rattle.std.proofs.lemmas.Result.{on_ok_weaker, on_err_weaker}
use Rattle.answer_text.proofs.Gathered.{on_err, more, less_within}
use Rattle.answer_text.proofs.Doubling.{goes_on, next_piece, last_piece}
use Rattle.answer_text.proofs.listing.push_pieces.Goals as goal
use Rattle.answer_text.proofs.listing.push_pieces.Goals.{then-b-eq39+in_ok-push, else-b-eq39}

pub returns-in_err-push-clause-part : goal.returns-in_err-push-clause-part
returns-in_err-push-clause-part g c =
    let i = c.loop-i.invariant in
    let e = next_piece _ i.0 _ _ i.1 c.loop-i-test.true c.if-b-eq39.true i.4 in
    on_err _ _ (less_within _ _ _ _ _ i.0 _ _ _ i.3 c.in_err-push.ensures.part
    (e ∙ append_assoc i.0 _ _))

pub loop-i-preserved : goal.loop-i-preserved
loop-i-preserved g c =
    let i = c.loop-i.invariant in
    elim c.if-b-eq39.branch [
      | then-b-eq39+in_ok-push w ↦ rw (w.line-is, w.sink-is, w.start-is) (
        _,
        omega arith,
        w.in_ok-push.ensures.cause.kept ∙ i.2,
        more _ _ _ _ _ _ _ _ i.3 w.in_ok-push.ensures.all,
        next_piece _ i.0 _ _ i.1 c.loop-i-test.true w.if-b-eq39.true i.4,
      )
      | else-b-eq39 w ↦ rw (w.line-is, w.sink-is, w.start-is) (
        i.0,
        omega arith,
        i.2,
        i.3,
        goes_on _ i.0 _ _ i.1 c.loop-i-test.true w.if-b-eq39.false i.4,
      )
    ]

pub returns-clause-all : goal.returns-clause-all
returns-clause-all g c =
    let i = c.loop-i.invariant in
    let e = last_piece _ i.0 _ _ c.loop-i.auto.i-end c.loop-i-test.false i.4 in
    on_ok_weaker c.push-2.result (λ q. rw e (more _ _ _ _ _ _ _ _ i.3 q)) c.push-2.ensures.all

pub returns-clause-part : goal.returns-clause-part
returns-clause-part g c =
    let i = c.loop-i.invariant in
    let e = last_piece _ i.0 _ _ c.loop-i.auto.i-end c.loop-i-test.false i.4 in
    on_err_weaker c.push-2.result (λ q. less_within _ _ _ _ _ _ _ [] _ i.3 q
    (e ∙ ap (λ l. i.0 ++ l) (sym (append-nil _)))) c.push-2.ensures.part
