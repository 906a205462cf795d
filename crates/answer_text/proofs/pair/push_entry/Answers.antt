use Rattle.std.proofs.Common.{[], ◌++◌, refl, codes}
use Rattle.std.specs.Prelude.{map}
use Rattle.std.proofs.lemmas.Result.{on_ok_weaker, on_err_weaker}
use Rattle.prima_base.specs.Order.{shown}
use Rattle.answer_text.specs.Texts.{values_text}
use Rattle.answer_text.proofs.Gathered.{on_err, more, nothing, less_longer, less_within}
use Rattle.answer_text.proofs.Gathered.{less_gathered}
use Rattle.answer_text.proofs.pair.push_entry.Goals as goal

pub returns-in_err-push_period-clause-part : goal.returns-in_err-push_period-clause-part
returns-in_err-push_period-clause-part g c = on_err _ _
    (less_longer _ _ _ _ c.in_err-push_period.ensures.part)

pub returns-clause-all : goal.returns-clause-all
returns-clause-all g c =
    on_ok_weaker c.push_values.result (more _ _ _ _ _ _ _
    (values_text (map shown c.args.values.now)) c.in_ok-push_period.ensures.all)
    c.push_values.ensures.all

pub returns-clause-part : goal.returns-clause-part
returns-clause-part g c =
    on_err_weaker c.push_values.result (less_gathered _ _ _ _ _ _
    (values_text (map shown c.args.values.now)) c.in_ok-push_period.ensures.all)
    c.push_values.ensures.part
