use Rattle.std.specs.Prelude.{codes, List, ℕ, ◌++◌}
use Rattle.std.proofs.lemmas.Result.{on_ok_weaker}
use Rattle.cond_expr.specs.Seen.{test}
use Rattle.smo_parse.specs.Texts.{cond_text, operator_text}
use Rattle.smo_parse.proofs.After.{one_more, two_more}
use Rattle.smo_parse.proofs.op_printer.write_join_table.Goals as goal

pub returns : goal.returns
unfolding operator_text
returns c =
    let start : List ℕ = codes "JOIN TABLE " ++ c.args.left.now ++ codes ", " ++ c.args.right.now in
    let text : List ℕ = cond_text (test c.args.cond.now) in
    let with_into = two_more _ _ _ start (codes " INTO ") c.args.into.now c.in_ok-put_names.ensures
    c.in_ok-put_name.ensures in
    let with_where = one_more _ _ _ (start ++ codes " INTO " ++ c.args.into.now) (codes " WHERE ")
    with_into c.in_ok-put.ensures.ok in
    on_ok_weaker c.write_cond.result (one_more _ _ _
    (start ++ codes " INTO " ++ c.args.into.now ++ codes " WHERE ") text with_where)
    c.write_cond.ensures.ok
