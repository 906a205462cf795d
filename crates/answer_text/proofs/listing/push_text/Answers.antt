use Rattle.std.proofs.Common.{sym}
use Rattle.std.proofs.lemmas.Result.{on_ok_weaker, on_err_weaker}
use Rattle.answer_text.proofs.Doubling.{without_quotes}
use Rattle.answer_text.proofs.listing.push_text.Goals as goal

pub returns-clause-all : goal.returns-clause-all
returns-clause-all g c =
    let e = without_quotes c.args.bytes.now (sym c.if-contains.ensures.value) in
    on_ok_weaker c.push_whole.result (λ q. rw e q) c.push_whole.ensures.all

pub returns-clause-part : goal.returns-clause-part
returns-clause-part g c =
    let e = without_quotes c.args.bytes.now (sym c.if-contains.ensures.value) in
    on_err_weaker c.push_whole.result (λ q. rw e q) c.push_whole.ensures.part
