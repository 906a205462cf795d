use Rattle.std.proofs.Common.{[], ◌++◌, refl, codes}
use Rattle.std.specs.Prelude.{map}
use Rattle.std.proofs.lemmas.Result.{on_ok_weaker, on_err_weaker}
use Rattle.prima_base.specs.Order.{shown}
use Rattle.answer_text.specs.Texts.{entry_text, pair_text}
use Rattle.answer_text.proofs.Gathered.{on_err, more, nothing, less_longer, less_within}
use Rattle.answer_text.proofs.Gathered.{less_gathered}
use Rattle.answer_text.proofs.pair.push_pair.Goals as goal

pub returns-in_err-push_entry-clause-part : goal.returns-in_err-push_entry-clause-part
unfolding pair_text
returns-in_err-push_entry-clause-part g c = on_err _ _
    (less_within _ _ _ _ _ [] (entry_text (codes "pair")
    (record { item = map shown c.args.left_values.now; period = c.args.left }))
    (entry_text (codes " with") (record {
      item = map shown c.args.right_values.now;
      period =
          c.args.right;
    }) ++ codes "\n") _ (nothing _ _) c.in_err-push_entry.ensures.part refl)

pub returns-clause-all : goal.returns-clause-all
unfolding pair_text
returns-clause-all g c =
    on_ok_weaker c.push_right.result (more _ _ _ _ _ _ _
    (entry_text (codes " with") (record {
      item = map shown c.args.right_values.now;
      period =
          c.args.right;
    }) ++ codes "\n") c.in_ok-push_entry.ensures.all) c.push_right.ensures.all

pub returns-clause-part : goal.returns-clause-part
unfolding pair_text
returns-clause-part g c =
    on_err_weaker c.push_right.result (less_gathered _ _ _ _ _ _
    (entry_text (codes " with") (record {
      item = map shown c.args.right_values.now;
      period =
          c.args.right;
    }) ++ codes "\n") c.in_ok-push_entry.ensures.all)
    c.push_right.ensures.part
