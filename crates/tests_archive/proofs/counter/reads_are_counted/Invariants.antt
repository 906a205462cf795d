use Rattle.tests_archive.proofs.counter.reads_are_counted.Given as goal

abbrev pub ghosts-mounted : goal.ghosts-mounted
ghosts-mounted g a = record { name = a.blank.name; parts = a.blank.parts }

abbrev pub ghosts-rows_and_steps : goal.ghosts-rows_and_steps
ghosts-rows_and_steps g a = record { name = a.blank.name; parts = a.blank.parts }
