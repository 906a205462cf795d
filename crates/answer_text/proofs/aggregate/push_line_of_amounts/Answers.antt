use Rattle.std.proofs.Common.{[], ◌++◌, refl, codes}
use Rattle.std.specs.Prelude.{map}
use Rattle.std.proofs.lemmas.Result.{on_ok_weaker, on_err_weaker}
use Rattle.prima_base.specs.Order.{shown}
use Rattle.prima_base.specs.Groups.{amount}
use Rattle.answer_text.specs.Texts.{amounts_text}
use Rattle.answer_text.proofs.Gathered.{on_err, more, nothing, less_longer, less_within}
use Rattle.answer_text.proofs.Gathered.{less_gathered}
use Rattle.answer_text.proofs.aggregate.push_line_of_amounts.Goals as goal

pub returns-in_err-push_amounts-clause-part : goal.returns-in_err-push_amounts-clause-part
returns-in_err-push_amounts-clause-part g c = on_err _ _
    (less_within _ _ _ _ _ [] (amounts_text (map amount c.args.values.now)) (codes "\n") _
    (nothing _ _) c.in_err-push_amounts.ensures.part refl)

pub returns-clause-all : goal.returns-clause-all
returns-clause-all g c =
    on_ok_weaker c.push.result (more _ _ _ _ _ _ _ (codes "\n") c.in_ok-push_amounts.ensures.all)
    c.push.ensures.all

pub returns-clause-part : goal.returns-clause-part
returns-clause-part g c =
    on_err_weaker c.push.result (less_gathered _ _ _ _ _ _ (codes "\n")
    c.in_ok-push_amounts.ensures.all)
    c.push.ensures.part
