-- The statements of a script as steps of its sessions, what a FETCH tells, and a COMMIT beside an
-- AT.
use Rattle.std.specs.Prelude.{◌≡◌, ℕ, true, false, List, [], ◌∷◌, length, take, drop, Some}
use Rattle.temporal_lang_types.specs.Queries.{PlainQuery}
use Rattle.temporal_lang_spec.specs.Answers.{answer}
use Rattle.sessions.specs.Shared.{newest}
use Rattle.sessions.specs.SessionStates.{PlainTransaction}
use Rattle.sessions.specs.Requests.{committing, opening, fetching}
use Rattle.sessions.specs.Steps.{command_at}
use Rattle.sessions.specs.Runs.{Step, elsewhere, after_all, given, leave_open}
use Rattle.script_parse.specs.Script.{StatementPart, Whole as Text, Skipped}
use Rattle.script_parse.specs.Statements.{session}
use Rattle.script_parse.specs.Reading.{Whole, reading}
use Rattle.script_cli_statement.specs.ArchiveOnDisk.{tells_periods}
use Rattle.answer_text.specs.Texts.{listing_text}
use Rattle.script_cli_statement.specs.ArchiveOnDisk.{need_of}
use Rattle.script_cli_statement.specs.Given.{Given}
use Rattle.script_cli_statement.specs.Replies.{Recorded, Reply, shared_by, world_of, reply}
use Rattle.script_cli_statement.specs.Replies.{command_reply, session_reply}
use Rattle.script_cli_statement.specs.Stepping.{step_of}
use Rattle.script_cli.specs.Output.{part_reply, recorded_after}

abbrev pub part_step : Given → Recorded → StatementPart → Step
part_step limit now (Text text) = step_of (reading text)
    (shared_by limit (reply limit now text).after)
part_step limit now Skipped = elsewhere (shared_by limit now)

-- the statements one after the other
abbrev pub steps_of : Given → Recorded → List StatementPart → List Step
steps_of limit now [] = []
steps_of limit now (p ∷ parts) = part_step limit now p
    ∷ steps_of limit (part_reply limit now p).after parts

-- what stands after statements is what stands after their steps: what sessions share, and what they
-- have
abbrev pub StatementsAreSteps : Given → Type 0
StatementsAreSteps limit = (now : Recorded) (statements : List StatementPart)
    → world_of limit (recorded_after limit now statements)
    ≡ after_all need_of (world_of limit now) (steps_of limit now statements)

-- it has the same bytes and puts the same, and the same past and gate stand after it
pub record IsAnsweredAs (reply other : Reply) : Type 0 where
  pub text : reply.text ≡ other.text
  pub puts : reply.puts ≡ other.puts
  pub past : reply.after.past ≡ other.after.past
  pub at : reply.after.at ≡ other.after.at
  pub is_error : reply.is_error ≡ other.is_error

-- A COMMIT in whose transaction something is changed is answered as an AT with all its changes,
-- where the newest version is the one at its beginning.
abbrev pub CommitsAreCommands : Given → Type 0
CommitsAreCommands limit = (now : Recorded) (s stamp : ℕ) (t : PlainTransaction)
    → now.sessions.transaction s ≡ Some t → (t.changes ≡ [] → ⊥)
    → t.began ≡ newest (shared_by limit now)
    → IsAnsweredAs (session_reply limit s (committing stamp) now)
    (command_reply limit (command_at stamp t.changes) now)

-- A FETCH after an OPEN that is no error and statements that do not close the cursor, whatever they
-- are: its reply has the lines of a query for the next entries of the answer at the OPEN, behind
-- all that these statements fetched of it.
abbrev pub FetchesAreOfTheAnswer : Given → Type 0
FetchesAreOfTheAnswer limit = (now : Recorded) (open_text fetch_text : List ℕ)
    (statements : List StatementPart) (s : ℕ) (name : List ℕ) (query : PlainQuery) (count : ℕ)
    → let opened = (reply limit now open_text).after in
    let steps = steps_of limit opened statements in
    reading open_text ≡ Whole (session s (opening name query))
    → (reply limit now open_text).is_error ≡ false → leave_open s name steps ≡ true
    → reading fetch_text ≡ Whole (session s (fetching name count))
    → (reply limit (recorded_after limit opened statements) fetch_text).text
    ≡ listing_text (tells_periods query.when) (take count
    (drop (length (given need_of (world_of limit opened) s name steps)) (answer now.past query)))
