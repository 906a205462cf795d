use Rattle.std.specs.Prelude.{codes, List, ℕ, ◌++◌}
use Rattle.std.proofs.lemmas.Result.{on_ok_weaker}
use Rattle.cond_expr.specs.Seen.{tree}
use Rattle.smo_parse.specs.Texts.{expr_text, operator_text}
use Rattle.smo_parse.proofs.After.{one_more, two_more}
use Rattle.smo_parse.proofs.op_printer.write_add_column.Goals as goal

pub returns : goal.returns
unfolding operator_text
returns c =
    let start : List ℕ = codes "ADD COLUMN " ++ c.args.column.now in
    let text : List ℕ = expr_text (tree c.args.expr.now) in
    let with_as = one_more _ _ _ start (codes " AS ") c.in_ok-put_name.ensures
    c.in_ok-put.ensures.ok in
    let with_text = one_more _ _ _ (start ++ codes " AS ") text with_as
    c.in_ok-write_expr.ensures.ok in
    on_ok_weaker c.put_name-2.result (two_more _ _ _ (start ++ codes " AS " ++ text)
    (codes " INTO ") c.args.table.now with_text) c.put_name-2.ensures
