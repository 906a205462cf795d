use Rattle.script_cli.proofs.sample.sample_over.Given as goal

abbrev pub ghosts-mount_counted : goal.ghosts-mount_counted
ghosts-mount_counted g a = record { name = a.blank.name; parts = a.blank.parts }
