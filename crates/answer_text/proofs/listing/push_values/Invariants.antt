use Rattle.std.proofs.Common.{◌≡◌, ℕ, List, ◌++◌, drop}
use Rattle.std.specs.Prelude.{map}
use Rattle.prima_base.specs.Order.{shown}
use Rattle.answer_text.specs.Gathering.{Gathers}
use Rattle.answer_text.specs.Texts.{values_text}
use Rattle.answer_text.proofs.listing.push_values.Given as goal

abbrev pub invariant-loop-value : goal.invariant-loop-value
invariant-loop-value g l = (sent : List ℕ)
    × (g.K.Sink.faults l.sink ≡ g.K.Sink.faults l.initial.sink)
    × Gathers (g.K.Sink.written l.initial.sink) l.initial.line (g.K.Sink.written l.sink) l.line sent
    × (values_text (map shown l.values) ≡ sent
    ++ values_text (map shown (drop l.value-index l.values)))
