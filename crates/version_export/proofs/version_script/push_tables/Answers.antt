use Rattle.version_export.proofs.TableLines.{no_tables, tables_added, tables_fail}
use Rattle.version_export.proofs.version_script.push_tables.Goals as goal

pub returns-in-empty : goal.returns-in-empty
returns-in-empty c = no_tables c.args.first c.args.tables.now c.args.lines.now.items
    c.in-empty.len_below

pub returns-in-Ok : goal.returns-in-Ok
returns-in-Ok c = tables_added c.args.first c.args.tables.now c.args.lines.now.items
    c.push_creation.new.lines.items c.push_rows.new.lines.items c.push_rows.result
    c.in-len1-up.len_at_least c.in-Ok.ensures c.push_rows.ensures

pub returns-in-Err : goal.returns-in-Err
returns-in-Err c = tables_fail c.args.first c.args.tables.now c.args.lines.now.items
    c.push_creation.new.lines.items c.in-Err.fault c.in-len1-up.len_at_least c.in-Err.ensures
