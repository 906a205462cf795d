use Rattle.std.proofs.Common.{◌≡◌, ◌++◌, map, take, drop}
use Rattle.smo_ops_versions_spec.specs.Lifelines.{line_after}
use Rattle.smo_ops_operators.specs.Names.{is_one_of}
use Rattle.store_image_reader.specs.Seen.{line_seen}
use Rattle.store_image_reader.proofs.due.end_lines.Given as goal

abbrev pub invariant-loop-i : goal.invariant-loop-i
invariant-loop-i l = map line_seen l.lines ≡ map (line_after (is_one_of l.names) l.version)
    (take l.i (map line_seen l.initial.lines)) ++ drop l.i (map line_seen l.initial.lines)
