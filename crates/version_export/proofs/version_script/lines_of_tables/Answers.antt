use Rattle.version_export.specs.Written.{table_statements}
use Rattle.version_export.proofs.LineLaws.{as_fault}
use Rattle.version_export.proofs.TableLines.{from_none}
use Rattle.version_export.proofs.version_script.lines_of_tables.Goals as goal

pub returns-in-Ok : goal.returns-in-Ok
returns-in-Ok c = from_none (table_statements c.args.first c.args.tables.now)
    c.new-lines.result.items c.push_tables.new.lines.items c.new-lines.ensures.items
    c.in-Ok.ensures

pub returns-in-Err : goal.returns-in-Err
returns-in-Err c = as_fault (table_statements c.args.first c.args.tables.now)
    c.new-lines.result.items c.push_tables.new.lines.items c.in-Err.fault c.in-Err.ensures
