use Rattle.std.proofs.Common.{refl, [], codes, ◌++◌}
use Rattle.std.proofs.lemmas.Result.{on_ok_weaker, on_err_weaker}
use Rattle.smo_parse.specs.TreeTexts.{doubled}
use Rattle.answer_text.proofs.Gathered.{on_err, more, nothing, less_within, less_gathered}
use Rattle.answer_text.proofs.listing.push_doubled.Goals as goal

pub returns-in_err-push-clause-part : goal.returns-in_err-push-clause-part
returns-in_err-push-clause-part g c =
    on_err _ _ (less_within _ _ _ _ _ [] (codes " '") (doubled c.args.bytes.now ++ codes "'") _
    (nothing _ _) c.in_err-push.ensures.part refl)

pub returns-in_err-push_pieces-clause-part : goal.returns-in_err-push_pieces-clause-part
returns-in_err-push_pieces-clause-part g c =
    on_err _ _ (less_within _ _ _ _ _ (codes " '") _ (codes "'") _ c.in_ok-push.ensures.all
    c.in_err-push_pieces.ensures.part refl)

pub returns-clause-all : goal.returns-clause-all
returns-clause-all g c =
    let p = more _ _ _ _ _ _ (codes " '") (doubled c.args.bytes.now) c.in_ok-push.ensures.all
    c.in_ok-push_pieces.ensures.all in
    on_ok_weaker c.push-2.result (more _ _ _ _ _ _ _ (codes "'") p) c.push-2.ensures.all

pub returns-clause-part : goal.returns-clause-part
returns-clause-part g c =
    let p = more _ _ _ _ _ _ (codes " '") (doubled c.args.bytes.now) c.in_ok-push.ensures.all
    c.in_ok-push_pieces.ensures.all in
    on_err_weaker c.push-2.result (less_gathered _ _ _ _ _ _ (codes "'") p) c.push-2.ensures.part
