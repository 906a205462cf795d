use Rattle.cases_devices.proofs.run.open.Given as goal

abbrev pub ghosts-mount_counted : goal.ghosts-mount_counted
ghosts-mount_counted a = record { name = a.blank.name; parts = a.blank.parts }
