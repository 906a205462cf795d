use Rattle.std.proofs.Common.{◌≡◌, ℕ, List, ◌++◌, drop}
use Rattle.answer_text.specs.Gathering.{Gathers}
use Rattle.answer_text.specs.Texts.{values_text}
use Rattle.answer_text.proofs.session.push_kept_values.Given as goal

abbrev pub invariant-loop-value : goal.invariant-loop-value
invariant-loop-value g l = (sent : List ℕ)
    × (g.K.Sink.faults l.sink ≡ g.K.Sink.faults l.initial.sink)
    × Gathers (g.K.Sink.written l.initial.sink) l.initial.line (g.K.Sink.written l.sink) l.line sent
    × (values_text l.values ≡ sent ++ values_text (drop l.value-index l.values))
