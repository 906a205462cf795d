use Rattle.std.proofs.Common.{◌≡◌, ℕ, List, ◌++◌, drop}
use Rattle.std.specs.Prelude.{map}
use Rattle.prima_base.specs.Groups.{amount}
use Rattle.answer_text.specs.Gathering.{Gathers}
use Rattle.answer_text.specs.Texts.{amounts_text}
use Rattle.answer_text.proofs.aggregate.push_amounts.Given as goal

abbrev pub invariant-loop-value : goal.invariant-loop-value
invariant-loop-value g l = (sent : List ℕ)
    × (g.K.Sink.faults l.sink ≡ g.K.Sink.faults l.initial.sink)
    × Gathers (g.K.Sink.written l.initial.sink) l.initial.line (g.K.Sink.written l.sink) l.line sent
    × (amounts_text (map amount l.values) ≡ sent
    ++ amounts_text (map amount (drop l.value-index l.values)))
