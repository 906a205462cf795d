use Rattle.cases_store_tables.proofs.tested_table.scan.Given as goal

abbrev pub ghosts-scan_counted : goal.ghosts-scan_counted
ghosts-scan_counted a = record { name = a.blank.name; parts = a.blank.parts }
