use Rattle.std.proofs.Common.{◌-◌}
use Rattle.command_codec_checker.proofs.ListSteps.{PassesMany}
use Rattle.command_codec_checker.proofs.list.check_list.Given as goal

abbrev pub invariant-loop : goal.invariant-loop
invariant-loop g l = let p = (g.T.Listed.production l.item).parser in
    PassesMany p l.count (l.count - l.counter) l.initial.reader.rest.now l.reader.rest.now
