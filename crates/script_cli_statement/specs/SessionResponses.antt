-- How what a session asks for is responded to.
use Rattle.std.specs.Prelude.{◌≡◌, Some, Result, Ok, Err, ⊤}
use Rattle.prima_base.specs.declared.failure.Failed.{Failed}
use Rattle.smo_ops_spec.specs.Checks.{Fault}
use Rattle.sessions.specs.declared.vault.VaultFault.{VaultFault}
use Rattle.sessions.specs.declared.vault.VaultFault.TheVariants as vault
use Rattle.sessions.specs.Requests.{IsTimely}
use Rattle.script_parse.specs.Statements.{PlainStatement, write, ask, explain, show_versions}
use Rattle.script_parse.specs.Statements.{show_schema, show_sizes, show_cursors, checkpoint, pairs}
use Rattle.script_parse.specs.Statements.{aggregate, session}
use Rattle.script_cli_statement.specs.declared.reply_kind.ReplyKind.{ReplyKind}
use Rattle.script_cli_statement.specs.declared.reply_kind.ReplyKind.TheVariants.{NoError}
use Rattle.script_cli_statement.specs.declared.stop_reason.StopReason.{StopReason}
use Rattle.script_cli_statement.specs.declared.stop_reason.StopReason.TheVariants.{WriteFault}

-- the stamp of a COMMIT is a moment
abbrev pub IsTimelyStatement : PlainStatement → Type 0
IsTimelyStatement (session s request) = IsTimely request
IsTimelyStatement (write command) = ⊤
IsTimelyStatement (ask query) = ⊤
IsTimelyStatement (explain query) = ⊤
IsTimelyStatement (pairs left relation right) = ⊤
IsTimelyStatement (aggregate items group query) = ⊤
IsTimelyStatement show_versions = ⊤
IsTimelyStatement (show_schema version) = ⊤
IsTimelyStatement show_sizes = ⊤
IsTimelyStatement show_cursors = ⊤
IsTimelyStatement checkpoint = ⊤

-- a line that is no error was put, or not whole
abbrev pub without_error : Result (Unit {0}) Failed → Result ReplyKind StopReason
without_error (Ok put) = Ok NoError
without_error (Err failed) = Err WriteFault

-- this is the fault of a request that calls no disk
abbrev pub IsFaultOf : Fault → VaultFault → Type 0
IsFaultOf wrong (vault.Refused r) = wrong ≡ Some r
IsFaultOf wrong vault.NoMemory = ⊤
IsFaultOf wrong vault.Broken = ⊥
IsFaultOf wrong vault.Disk = ⊥

-- it is a refusal
abbrev pub IsRefused : VaultFault → Type 0
IsRefused (vault.Refused r) = ⊤
IsRefused vault.NoMemory = ⊥
IsRefused vault.Broken = ⊥
IsRefused vault.Disk = ⊥
