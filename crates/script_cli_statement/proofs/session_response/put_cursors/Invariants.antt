use Rattle.std.proofs.Common.{◌≡◌, ℕ, List, ◌++◌, drop}
use Rattle.std.specs.Io.KnownBytes.{Appends}
use Rattle.sessions.specs.Meaning.{sessions_of}
use Rattle.script_cli_statement.proofs.CursorLines.{lines, all}
use Rattle.script_cli_statement.proofs.session_response.put_cursors.Given as goal

abbrev pub invariant-loop-i : goal.invariant-loop-i
invariant-loop-i g l = let cursors = (sessions_of l.sessions).cursors in (sent : List ℕ)
    × (g.K.Sink.faults l.sink ≡ g.K.Sink.faults l.initial.sink)
    × Appends (g.K.Sink.written l.initial.sink) (g.K.Sink.written l.sink) sent
    × (lines cursors (all cursors) ≡ sent ++ lines cursors (drop l.i (all cursors)))
