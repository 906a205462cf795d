-- What is read of a statement, as a step of the sessions.
use Rattle.sessions.specs.Shared.{Shared}
use Rattle.sessions.specs.Runs.{Step, asked, elsewhere}
use Rattle.script_parse.specs.Statements.{session}
use Rattle.script_parse.specs.Reading.{Reading, Whole}

-- What a session asks for is its step. By each other statement what is shared becomes this, and no
-- session is asked.
abbrev pub step_of : Reading → Shared → Step
step_of (Whole (session s request)) next = asked s request
step_of other next = elsewhere next
