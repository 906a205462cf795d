use Rattle.std.proofs.Common.{◌≡◌, ℕ, List, ◌++◌, drop}
use Rattle.std.specs.List.{flat_map}
use Rattle.prima_base.specs.Timed.{entries_of}
use Rattle.answer_text.specs.Gathering.{Gathers}
use Rattle.answer_text.specs.Texts.{row_text}
use Rattle.answer_text.proofs.listing.push_rows.Given as goal

abbrev pub invariant-loop-i : goal.invariant-loop-i
invariant-loop-i g l = (sent : List ℕ)
    × (g.K.Sink.faults l.sink ≡ g.K.Sink.faults l.initial.sink)
    × Gathers (g.K.Sink.written l.initial.sink) l.initial.line (g.K.Sink.written l.sink) l.line sent
    × (flat_map (row_text l.told) (entries_of l.rows.items) ≡ sent
    ++ flat_map (row_text l.told) (entries_of (drop l.i l.rows.items)))
