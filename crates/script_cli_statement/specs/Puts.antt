-- What was put of a reply, as far as the run keeps it.
use Rattle.std.specs.Prelude.{Bool, true, false, List, [], ◌∷◌}
use Rattle.script_cli_statement.specs.declared.reply_kind.ReplyKind.{ReplyKind}
use Rattle.script_cli_statement.specs.declared.reply_kind.ReplyKind.TheVariants.{NoError, Command}
use Rattle.script_cli_statement.specs.declared.reply_kind.ReplyKind.TheVariants.{ErrorLine}
use Rattle.script_cli_statement.specs.Due.{Due, command_due, image_due}

-- an `error` line
abbrev pub is_error : ReplyKind → Bool
is_error NoError = false
is_error Command = false
is_error ErrorLine = true

-- the `ok` line of a command
abbrev pub is_command : ReplyKind → Bool
is_command NoError = false
is_command Command = true
is_command ErrorLine = false

-- what is put of a reply that is an `error` line or not, to a statement that puts this
abbrev pub put_for : Bool → List Due → ReplyKind
put_for true due = ErrorLine
put_for false [] = NoError
put_for false (command_due command ∷ due) = Command
put_for false (image_due past ∷ due) = NoError
