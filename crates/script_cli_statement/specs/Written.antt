-- What is so of each statement that stands in a text.
use Rattle.std.specs.Prelude.{◌<◌, ⊤}
use Rattle.relations_spec.specs.Spans.{forever}
use Rattle.piece_ir_spec.specs.Constants.{ValidInEvolution}
use Rattle.script_cli_vault.specs.ArchiveOnDisk.{ValidInQuery}
use Rattle.sessions.specs.Requests.{Request, beginning, buffering, committing, aborting, opening}
use Rattle.sessions.specs.Requests.{fetching, closing, IsTimely}
use Rattle.script_parse.specs.Reading.{Reading, Blank, Refused, Whole}
use Rattle.script_parse.specs.Statements.{PlainStatement, write, ask, explain, show_versions}
use Rattle.script_parse.specs.Statements.{show_schema, show_sizes, show_cursors, checkpoint, pairs}
use Rattle.script_parse.specs.Statements.{aggregate, session}

-- the constants of a cursor's query are valid
abbrev pub OpensWritten : Request → Type 0
OpensWritten beginning = ⊤
OpensWritten (buffering changes) = ⊤
OpensWritten (committing stamp) = ⊤
OpensWritten aborting = ⊤
OpensWritten (opening name query) = ValidInQuery query
OpensWritten (fetching name count) = ⊤
OpensWritten (closing name) = ⊤

-- a stamp is a moment, and the constants of what leads to a command's version and back are valid;
-- so are those of queries
abbrev pub IsWritten : PlainStatement → Type 0
IsWritten (write command) = (command.stamp < forever) × ValidInEvolution command.body
IsWritten (ask query) = ValidInQuery query
IsWritten (explain query) = ValidInQuery query
IsWritten (pairs left relation right) = ValidInQuery left × ValidInQuery right
IsWritten (aggregate items group query) = ValidInQuery query
IsWritten (session s request) = IsTimely request × OpensWritten request
IsWritten show_versions = ⊤
IsWritten (show_schema version) = ⊤
IsWritten show_sizes = ⊤
IsWritten show_cursors = ⊤
IsWritten checkpoint = ⊤

abbrev pub HasWritten : Reading → Type 0
HasWritten Blank = ⊤
HasWritten (Refused r) = ⊤
HasWritten (Whole statement) = IsWritten statement
