use Rattle.std.proofs.Common.{ap, ◌∷◌, [], ◌∙◌}
use Rattle.version_groups.specs.GroupFields.{all_places, items_of}
use Rattle.version_groups.proofs.PreparedCommands.{new_represents}
use Rattle.version_groups.proofs.groups.Groups.new.Goals as goal

pub returns : goal.returns
returns c = new_represents _ c.new.ensures.items
    (ap (λ e. all_places (items_of e) c.new-4.result.items)
    c.new-3.ensures.items ∙ ap (λ n. n ∷ []) c.new-4.ensures.items) c.new-2.ensures.items
