use Rattle.cases_store_tables.proofs.tested_table.current.Given as goal

abbrev pub ghosts-current_counted : goal.ghosts-current_counted
ghosts-current_counted a = record { name = a.blank.name; parts = a.blank.parts }
