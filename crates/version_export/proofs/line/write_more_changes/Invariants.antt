use Rattle.std.proofs.Common.{◌≡◌, ◌++◌, drop, map}
use Rattle.version_export_lines_spec.specs.Lines.{then_texts}
use Rattle.version_export.specs.Turns.{change_of}
use Rattle.version_export.proofs.line.write_more_changes.Given as goal

abbrev pub invariant-loop-turn : goal.invariant-loop-turn
invariant-loop-turn l = l.out.items ++ then_texts (map change_of (drop l.turn-index l.turns))
    ≡ l.initial.out.items ++ then_texts (map change_of l.turns)
