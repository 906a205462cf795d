use Rattle.script_cli_statement.proofs.response.respond_ask.Given as goal

abbrev pub ghosts-ask_counted : goal.ghosts-ask_counted
ghosts-ask_counted g a = record { name = a.blank.name; parts = a.blank.parts }
