use Rattle.store_image_spec.specs.Items.{item, checked}
use Rattle.store_image_spec.specs.ItemChecks.{is_line}
use Rattle.store_image_spec.specs.Reader.{line_head, keys}
use Rattle.store_image_reader.specs.Seen.{line_seen, parts_seen}
use Rattle.store_image_reader.proofs.LineParts.{parts_read}
use Rattle.store_image_reader.proofs.line.stored_line.Goals as goal

pub order_of-requires : goal.order_of-requires
order_of-requires c =
    let due = line_seen c.args.due.now in
    let r = parts_read (item (checked (is_line due) line_head)) (keys c.args.last) c.args.last due
    c.args.reader.now.rest.now (parts_seen due (c.in_ok-keys.keys, c.in_ok-keys.cells))
    c.parts.new.reader.rest.now c.in_ok-keys.ensures in (
      c.args.last,
      due.columns,
      r.0,
      c.parts.new.reader.rest.now,
      rw (c.deref.ensures.value, c.deref-2.ensures.value) r.1,
    )
