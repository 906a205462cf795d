use Rattle.store_image.proofs.image_of_store.image_of.Goals as goal

pub returns-clause-image : goal.returns-clause-image
returns-clause-image c = λ past represents last.
    c.an_image_shows_its_archive.ensures c.args.groups.now past c.args.last represents last
    c.in_ok-bytes.ensures.holds
