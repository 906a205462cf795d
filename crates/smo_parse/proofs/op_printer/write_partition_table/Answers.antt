use Rattle.std.specs.Prelude.{codes, List, ℕ, ◌++◌}
use Rattle.std.proofs.lemmas.Result.{on_ok_weaker}
use Rattle.cond_expr.specs.Seen.{test}
use Rattle.smo_parse.specs.Texts.{cond_text, operator_text}
use Rattle.smo_parse.proofs.After.{one_more, two_more}
use Rattle.smo_parse.proofs.op_printer.write_partition_table.Goals as goal

pub returns : goal.returns
unfolding operator_text
returns c =
    let start : List ℕ = codes "PARTITION TABLE " ++ c.args.table.now ++ codes " INTO "
    ++ c.args.yes.now in
    let text : List ℕ = cond_text (test c.args.cond.now) in
    let with_word = one_more _ _ _ start (codes " WITH ") c.in_ok-put_names.ensures
    c.in_ok-put.ensures.ok in
    let with_text = one_more _ _ _ (start ++ codes " WITH ") text with_word
    c.in_ok-write_cond.ensures.ok in
    on_ok_weaker c.put_name.result (two_more _ _ _ (start ++ codes " WITH " ++ text) (codes ", ")
    c.args.no.now with_text) c.put_name.ensures
