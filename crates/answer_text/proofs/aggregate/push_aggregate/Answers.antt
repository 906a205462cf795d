use Rattle.std.proofs.Common.{[], ◌++◌, refl, codes}
use Rattle.std.specs.Prelude.{map}
use Rattle.std.proofs.lemmas.Result.{on_ok_weaker, on_err_weaker}
use Rattle.prima_base.specs.Order.{shown}
use Rattle.prima_base.specs.Groups.{amount}
use Rattle.answer_text.specs.Texts.{values_text, amounts_text, aggregate_text}
use Rattle.answer_text.proofs.Gathered.{on_err, more, nothing, less_longer, less_within}
use Rattle.answer_text.proofs.Gathered.{less_gathered}
use Rattle.answer_text.proofs.aggregate.push_aggregate.Goals as goal

pub returns-in_err-push_head-clause-part : goal.returns-in_err-push_head-clause-part
unfolding aggregate_text
returns-in_err-push_head-clause-part g c = on_err _ _
    (less_longer _ _ _ _ c.in_err-push_head.ensures.part)

pub returns-clause-all : goal.returns-clause-all
unfolding aggregate_text
returns-clause-all g c =
    on_ok_weaker c.push_group.result (more _ _ _ _ _ _ _
    (values_text (map shown c.args.row.now.group.items)
    ++ (amounts_text (map amount c.args.row.now.values.items) ++ codes "\n"))
    c.in_ok-push_head.ensures.all) c.push_group.ensures.all

pub returns-clause-part : goal.returns-clause-part
unfolding aggregate_text
returns-clause-part g c =
    on_err_weaker c.push_group.result (less_gathered _ _ _ _ _ _
    (values_text (map shown c.args.row.now.group.items)
    ++ (amounts_text (map amount c.args.row.now.values.items) ++ codes "\n"))
    c.in_ok-push_head.ensures.all)
    c.push_group.ensures.part
