use Rattle.std.specs.Prelude.{codes, ◌++◌}
use Rattle.std.proofs.lemmas.Result.{on_ok_weaker}
use Rattle.smo_parse.specs.Texts.{operator_text}
use Rattle.smo_parse.proofs.After.{two_more}
use Rattle.smo_parse.proofs.op_printer.write_rename_column.Goals as goal

pub returns : goal.returns
unfolding operator_text
returns c =
    on_ok_weaker c.put_name.result
    (two_more _ _ _ (codes "RENAME COLUMN " ++ c.args.column.now ++ codes " IN "
    ++ c.args.table.now) (codes " TO ") c.args.into.now c.in_ok-put_names.ensures)
    c.put_name.ensures
