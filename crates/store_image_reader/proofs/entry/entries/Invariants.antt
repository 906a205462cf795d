use Rattle.std.proofs.Common.{◌≡◌, ◌-◌, ◌<◌, map, length}
use Rattle.std.specs.Prelude.{IfSome}
use Rattle.command_codec_spec.specs.Reading.{prepend}
use Rattle.store_image_spec.specs.Reader.{entries}
use Rattle.store_image_reader.specs.Seen.{cell_seen}
use Rattle.store_image_reader.specs.Due.{keys_left}
use Rattle.store_image_reader.proofs.entry.entries.Given as goal

abbrev pub invariant-loop : goal.invariant-loop
invariant-loop l = record {
  so : entries l.last l.kind l.count 0 l.keys l.initial.reader.rest.now
      ≡ prepend (map cell_seen l.list.items) (entries l.last l.kind (l.count - l.counter) l.due.id
      (keys_left l.keys l.due) l.reader.rest.now);
  known : IfSome l.due.left (λ left. l.due.id < length l.keys);
}
