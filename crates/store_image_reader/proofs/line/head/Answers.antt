use Rattle.std.proofs.Common.{ℕ, List, sym, ap, ◌∙◌}
use Rattle.command_codec_spec.specs.Reading.{Parsed}
use Rattle.store_image_spec.specs.ItemChecks.{is_line}
use Rattle.store_image_spec.specs.Reader.{line_head}
use Rattle.store_image_reader.specs.Seen.{line_seen}
use Rattle.store_image_reader.proofs.ItemSteps.{checked_got}
use Rattle.store_image_reader.proofs.LineHeads.{head_due}
use Rattle.store_image_reader.proofs.line.head.Goals as goal

pub returns-in-Ok : goal.returns-in-Ok
returns-in-Ok c =
    let due = line_seen c.args.due.now in
    let read : (ℕ × ℕ) × List ℕ = ((c.in-Ok.first, c.in-Ok.last), c.in-Ok.table) in
    checked_got line_head (is_line due) read c.args.reader.now.rest.now
    c.head_read.new.reader.rest.now c.in-Ok.ensures (sym c.if-is_line.ensures)
    ∙ ap (λ x. Parsed x c.head_read.new.reader.rest.now)
    (head_due due read (sym c.if-is_line.ensures))
