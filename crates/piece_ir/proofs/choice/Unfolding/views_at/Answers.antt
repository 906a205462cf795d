use Rattle.std.proofs.Common.{◌+◌, ◌-◌, arith}
use Rattle.piece_ir.proofs.ChosenViews.{own_view}
use Rattle.piece_ir.proofs.choice.Unfolding.views_at.Goals as goal

pub views_of-requires : goal.views_of-requires
views_of-requires c =
    own_view c.args.self.now.wholes.now c.args.self.now.piece.now.atoms.items c.args.at
    (c.args.at + 1 - c.args.at) c.index.result.now c.requires.same c.requires.inside
    (omega arith) c.index.ensures
