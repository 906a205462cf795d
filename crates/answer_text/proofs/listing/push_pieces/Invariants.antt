use Rattle.std.proofs.Common.{◌≡◌, ◌≤◌, ◌-◌, ℕ, List, ◌++◌, take, drop}
use Rattle.answer_text.specs.Gathering.{Gathers}
use Rattle.smo_parse.specs.TreeTexts.{doubled}
use Rattle.answer_text.proofs.listing.push_pieces.Given as goal

abbrev pub invariant-loop-i : goal.invariant-loop-i
invariant-loop-i g l = (sent : List ℕ)
    × (l.start ≤ l.i)
    × (g.K.Sink.faults l.sink ≡ g.K.Sink.faults l.initial.sink)
    × Gathers (g.K.Sink.written l.initial.sink) l.initial.line (g.K.Sink.written l.sink) l.line sent
    × (doubled l.bytes ≡ sent ++ (take (l.i - l.start) (drop l.start l.bytes)
    ++ doubled (drop l.i l.bytes)))
