use Rattle.cases_store.proofs.comparison.are_borrowed.Given as goal

abbrev pub ghosts-are_borrowed_counted : goal.ghosts-are_borrowed_counted
ghosts-are_borrowed_counted a = record { name = a.blank.name; parts = a.blank.parts }
