use Rattle.std.proofs.Common.{◌≡◌, ◌-◌, ◌≤◌, map, length, take, drop}
use Rattle.std.specs.Prelude.{All}
use Rattle.command_codec_spec.specs.Reading.{prepend}
use Rattle.store_image_spec.specs.Reader.{lines}
use Rattle.store_image_reader.specs.Seen.{line_seen, lines_seen}
use Rattle.store_image_reader.specs.Ordered.{IsOrdered}
use Rattle.store_image_reader.proofs.line.all_lines.Given as goal

abbrev pub invariant-loop-i : goal.invariant-loop-i
invariant-loop-i l = record {
  so : lines l.last l.count (map line_seen l.due) l.initial.reader.rest.now
      ≡ prepend (lines_seen (take l.i (map line_seen l.due)) l.list.items)
      (lines l.last (l.count - l.i) (drop l.i (map line_seen l.due)) l.reader.rest.now);
  within : l.i ≤ length l.due;
  counted : length l.list.items ≡ l.i;
  ordered : All IsOrdered l.list.items;
}
