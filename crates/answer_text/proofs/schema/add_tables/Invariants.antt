use Rattle.std.proofs.Common.{◌≡◌, ◌++◌, take}
use Rattle.std.specs.FinMap.{entries}
use Rattle.answer_text.specs.Texts.{tables_text}
use Rattle.answer_text.proofs.schema.add_tables.Given as goal

abbrev pub invariant-loop-place : goal.invariant-loop-place
invariant-loop-place l = l.lines.items ≡ l.initial.lines.items
    ++ tables_text (take l.place (entries l.schema))
