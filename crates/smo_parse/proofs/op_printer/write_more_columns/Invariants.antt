use Rattle.std.proofs.Common.{◌≡◌, ◌++◌, map, drop}
use Rattle.smo_parse.specs.Texts.{column_text, more_listed}
use Rattle.smo_parse.proofs.op_printer.write_more_columns.Given as goal

abbrev pub invariant-loop-name : goal.invariant-loop-name
invariant-loop-name l = l.out.items ++ more_listed (map column_text (drop l.name-index l.columns))
    ≡ l.initial.out.items ++ more_listed (map column_text l.columns)
