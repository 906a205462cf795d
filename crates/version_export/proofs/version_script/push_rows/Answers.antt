use Rattle.std.proofs.Common.{List, map, subst, sym, ap, ◌∙◌}
use Rattle.version_export.specs.declared.row_turn.RowTurn.{RowTurn}
use Rattle.version_export.specs.Statements.{Statement, statement_of}
use Rattle.version_export.specs.Turns.{turn_of, commands_of, Rises}
use Rattle.version_export.specs.Written.{AddsLines}
use Rattle.version_export.proofs.version_script.push_rows.Goals as goal

pub push_row_lines-requires : goal.push_row_lines-requires
push_row_lines-requires c = subst (λ (ts : List RowTurn). Rises 0 ts) (sym c.deref.ensures.value)
    c.in-Ok.ensures.order

pub returns-in-Ok : goal.returns-in-Ok
returns-in-Ok c = subst (λ (ss : List Statement). AddsLines ss c.args.lines.now.items
    c.push_row_lines.new.lines.items c.push_row_lines.result)
    (ap (λ (ts : List RowTurn). map statement_of (commands_of (map turn_of ts)))
    c.deref.ensures.value ∙ ap (map statement_of) c.in-Ok.ensures.commands)
    c.push_row_lines.ensures
