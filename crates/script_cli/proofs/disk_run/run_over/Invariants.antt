use Rattle.script_cli.proofs.disk_run.run_over.Given as goal

abbrev pub ghosts-mount_counted : goal.ghosts-mount_counted
ghosts-mount_counted g a = record { name = a.blank.name; parts = a.blank.parts }
