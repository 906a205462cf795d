use Rattle.std.proofs.Common.{sym, ap, ◌∙◌, arith}
use Rattle.relations_spec.specs.Spans.{span}
use Rattle.prima_base.specs.Order.{shown}
use Rattle.command_codec_spec.specs.Reading.{Parsed, map_to, pair}
use Rattle.command_codec_spec.specs.Reader.{number_64, value}
use Rattle.store_image_spec.specs.ItemChecks.{is_due}
use Rattle.store_image_spec.specs.Reader.{entry, period, cell_of}
use Rattle.store_image_spec.proofs.Filling.{due_is}
use Rattle.store_image_reader.specs.Seen.{unchecked_seen}
use Rattle.store_image_reader.proofs.ItemSteps.{checked_got, checked_wrong, checked_fails}
use Rattle.store_image_reader.proofs.entry.entry.Goals as goal

pub returns-in-Ok : goal.returns-in-Ok
unfolding entry
returns-in-Ok c =
    let read = c.in-Ok.read in
    let due = due_is c.args.last c.args.kind c.args.id c.args.left (unchecked_seen read)
    (sym c.if-is_due.ensures) in
    let within = due.within in
    let end = c.between-period.ensures.end in
    record {
      reads =
          checked_got (map_to cell_of (pair (pair number_64 value) period))
          (is_due c.args.last c.args.kind c.args.id c.args.left) (unchecked_seen read)
          c.args.reader.now.rest.now c.entry_read.new.reader.rest.now c.in-Ok.ensures
          (sym c.if-is_due.ensures)
          ∙ ap (λ p. Parsed (record { id = read.id; value = shown read.value; period = p })
          c.entry_read.new.reader.rest.now)
          (ap (λ s. span s read.end) (sym c.between-period.ensures.start)
          ∙ ap (λ e. span c.between-period.result.start e) (sym c.between-period.ensures.end));
      within = omega (arith, within, end);
    }

pub returns-in-Ok-2 : goal.returns-in-Ok-2
unfolding entry
returns-in-Ok-2 c = record {
  reads = checked_wrong (map_to cell_of (pair (pair number_64 value) period))
      (is_due c.args.last c.args.kind c.args.id c.args.left) (unchecked_seen c.in-Ok.read)
      c.args.reader.now.rest.now c.entry_read.new.reader.rest.now c.in-Ok.ensures
      (sym c.if-is_due.ensures);
  within = tt;
}

pub returns : goal.returns
unfolding entry
returns c = record {
  reads = checked_fails (map_to cell_of (pair (pair number_64 value) period))
      (is_due c.args.last c.args.kind c.args.id c.args.left) c.in-Err.stop
      c.args.reader.now.rest.now c.entry_read.new.reader.rest.now c.in-Err.ensures;
  within = tt;
}
