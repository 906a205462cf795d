use Rattle.version_groups_changes.proofs.pending_changes.find_hits.Given as goal

abbrev pub ghosts-find_hits_counted : goal.ghosts-find_hits_counted
ghosts-find_hits_counted a = record { name = a.blank.name; parts = a.blank.parts }
