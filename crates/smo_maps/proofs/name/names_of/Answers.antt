use Rattle.std.proofs.Common.{◌++◌, ◌∷◌, [], ap, ◌∙◌}
use Rattle.smo_maps.proofs.MadeNames.{names_more}
use Rattle.smo_maps.proofs.name.names_of.Goals as goal

pub loop-name-preserved : goal.loop-name-preserved
loop-name-preserved c = names_more c.loop-name.names.items c.push.new.self.items c.args.columns.now
    c.loop-name.name-index c.loop-name-item.result c.loop-name-test.true c.loop-name-item.is
    c.loop-name.invariant (c.in_ok-push.ensures.items
    ∙ ap (λ n. c.loop-name.names.items ++ n ∷ []) c.in_ok-copy.ensures)
