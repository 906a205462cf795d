use Rattle.std.proofs.Common.{◌-◌, map}
use Rattle.command_codec.proofs.ListSteps.{SoMany}
use Rattle.command_codec.proofs.list.read_list.Given as goal

abbrev pub invariant-loop : goal.invariant-loop
invariant-loop g l = let i = g.T.Listed.item in
    SoMany i.parser l.count (l.count - l.counter) l.initial.reader.rest.now l.reader.rest.now
    (map i.view l.list.items)
