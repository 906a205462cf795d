use Rattle.answer_text.proofs.TablesBefore.{whole_schema}
use Rattle.answer_text.proofs.schema.schema_lines.Goals as goal

pub returns : goal.returns
returns c =
    whole_schema c.args.schema.now c.new-lines.result.items c.add_tables.new.lines.items
    c.add_count.new.line.items c.len.result c.new-lines.ensures.items c.in_ok-add_tables.ensures
    c.in_ok-add_count.ensures
    c.len.ensures.count
