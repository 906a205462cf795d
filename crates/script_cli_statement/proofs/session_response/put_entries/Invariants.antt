use Rattle.std.proofs.Common.{◌≡◌, ℕ, List, ◌++◌, drop}
use Rattle.std.specs.Io.KnownBytes.{Appends}
use Rattle.script_cli_statement.proofs.EntryLines.{lines}
use Rattle.script_cli_statement.proofs.session_response.put_entries.Given as goal

abbrev pub invariant-loop-row : goal.invariant-loop-row
invariant-loop-row g l = (sent : List ℕ)
    × (g.K.Sink.faults l.sink ≡ g.K.Sink.faults l.initial.sink)
    × Appends (g.K.Sink.written l.initial.sink) (g.K.Sink.written l.sink) sent
    × (lines l.periods l.rows l.rows ≡ sent ++ lines l.periods l.rows (drop l.row-index l.rows))
