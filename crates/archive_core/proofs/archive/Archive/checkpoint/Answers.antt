use Rattle.std.proofs.Common.{◌≡◌, ◌+◌, length, ap, ◌∙◌}
use Rattle.journal.specs.JournalFiles.{needs, sealed_record}
use Rattle.archive_core.proofs.Committed.{checkpoint_answers, so_if_ok}
use Rattle.archive_core.proofs.archive.Archive.checkpoint.Goals as goal

pub returns-clause-image : goal.returns-clause-image
returns-clause-image g c = so_if_ok c.put.result _ (λ past represents.
    c.an_image_shows_its_archive.ensures c.args.self.now.state.groups past
    c.args.self.now.state.last represents.groups represents.last c.in_ok-sealed.ensures.holds)

pub returns-clause-image_so_far : goal.returns-clause-image_so_far
returns-clause-image_so_far g c failed past represents =
    c.an_image_shows_its_archive.ensures c.args.self.now.state.groups past
    c.args.self.now.state.last represents.groups represents.last c.in_ok-sealed.ensures.holds

pub returns-clause-checkpoints : goal.returns-clause-checkpoints
returns-clause-checkpoints g c past represents =
    let image = c.an_image_shows_its_archive.ensures c.args.self.now.state.groups past
    c.args.self.now.state.last represents.groups represents.last c.in_ok-sealed.ensures.holds in
    checkpoint_answers past (sealed_record c.in_ok-sealed.sealed) c.args.self.now.journal.at
    c.args.self.now.journal.limit c.put.result
    (ap needs c.in_ok-sealed.ensures.sealed ∙ ap (λ n. 11 + n) image.length)
    c.put.ensures.is_put
