use Rattle.std.proofs.Common.{◌≡◌, ◌++◌, map, length, drop}
use Rattle.store_image_spec.specs.Images.{store_of}
use Rattle.store_image_reader.specs.Seen.{line_seen, lines_seen}
use Rattle.store_image.specs.ImageIn.{bare, CanAllBeMade}
use Rattle.store_image.proofs.image_source.restored_tables.Given as goal

abbrev pub invariant-loop-kept : goal.invariant-loop-kept
invariant-loop-kept l = record {
  so : map bare l.tables.items ++ map store_of
      (lines_seen (map line_seen (drop (length l.yielded) l.due))
      (drop (length l.yielded) l.fn.lines.items))
      ≡ map store_of (lines_seen (map line_seen l.due) l.fn.lines.items);
  valid : CanAllBeMade (map line_seen (drop (length l.yielded) l.due))
      (drop (length l.yielded) l.fn.lines.items);
}
