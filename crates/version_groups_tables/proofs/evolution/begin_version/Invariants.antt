use Rattle.version_groups_tables.proofs.evolution.begin_version.Given as goal

abbrev pub ghosts-migrate_rows : goal.ghosts-migrate_rows
ghosts-migrate_rows a = record { name = a.blank.name; parts = a.blank.parts }
