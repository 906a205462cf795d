use Rattle.std.specs.Prelude.{codes, List, ℕ, ◌++◌}
use Rattle.std.proofs.lemmas.Result.{on_ok_weaker}
use Rattle.smo_parse.specs.Texts.{part_text, operator_text}
use Rattle.smo_parse.proofs.After.{one_more}
use Rattle.smo_parse.proofs.op_printer.write_decompose_table.Goals as goal

pub returns : goal.returns
unfolding operator_text
returns c =
    let start : List ℕ = codes "DECOMPOSE TABLE " ++ c.args.table.now in
    let left : List ℕ = part_text c.args.left.now c.args.left_columns.now in
    let right : List ℕ = part_text c.args.right.now c.args.right_columns.now in
    let with_into = one_more _ _ _ start (codes " INTO ") c.in_ok-put_name.ensures
    c.in_ok-put.ensures.ok in
    let with_left = one_more _ _ _ (start ++ codes " INTO ") left with_into
    c.in_ok-write_part.ensures in
    let with_comma = one_more _ _ _ (start ++ codes " INTO " ++ left) (codes ", ") with_left
    c.in_ok-put-2.ensures.ok in
    on_ok_weaker c.write_part-2.result (one_more _ _ _
    (start ++ codes " INTO " ++ left ++ codes ", ") right with_comma) c.write_part-2.ensures
