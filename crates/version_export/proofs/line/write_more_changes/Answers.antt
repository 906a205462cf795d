use Rattle.std.proofs.Common.{◌++◌, map}
use Rattle.version_export_lines_spec.specs.Lines.{then_texts}
use Rattle.version_export.specs.Turns.{change_of}
use Rattle.version_export.proofs.PartTexts.{one_changed}
use Rattle.version_export.proofs.line.write_more_changes.Goals as goal

pub loop-turn-preserved : goal.loop-turn-preserved
loop-turn-preserved c = one_changed c.args.turns.now c.loop-turn.turn-index c.turn-item.result
    c.loop-turn.out.items c.put.new.out.items c.write_change.new.out.items
    (c.args.out.now.items ++ then_texts (map change_of c.args.turns.now)) c.loop-turn-test.true
    c.turn-item.is c.loop-turn.invariant c.in_ok-put.ensures.ok c.in_ok-write_change.ensures
