use Rattle.std.proofs.Common.{◌≡◌, ◌<◌, List, map, take, length}
use Rattle.std.specs.Prelude.{All}
use Rattle.time_aggregate.specs.declared.tally.Tally.{Tally}
use Rattle.time_aggregate.specs.Aggregates.{Row, amounts_of}
use Rattle.prima_base.specs.Groups.{amount}
use Rattle.time_aggregate.specs.Tallies.{TellsOf}
use Rattle.time_aggregate.proofs.sweep.values_of.Given as goal

abbrev pub invariant-loop-tally : goal.invariant-loop-tally
invariant-loop-tally l = (rows : List Row) → All (TellsOf rows) l.tallies → l.count ≡ length rows
    → 0 < length rows → map amount l.values.items
    ≡ amounts_of (map (λ (t : Tally). t.item) (take l.tally-index l.tallies)) rows
