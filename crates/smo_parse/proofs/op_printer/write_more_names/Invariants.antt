use Rattle.std.proofs.Common.{◌≡◌, ◌++◌, drop}
use Rattle.smo_parse.specs.Texts.{more_listed}
use Rattle.smo_parse.proofs.op_printer.write_more_names.Given as goal

abbrev pub invariant-loop-name : goal.invariant-loop-name
invariant-loop-name l = l.out.items ++ more_listed (drop l.name-index l.names) ≡ l.initial.out.items
    ++ more_listed l.names
