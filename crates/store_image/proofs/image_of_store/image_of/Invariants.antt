use Rattle.store_image.proofs.image_of_store.image_of.Given as goal

abbrev pub ghosts-image_counted : goal.ghosts-image_counted
ghosts-image_counted a = record { name = a.blank.name; parts = a.blank.parts }
