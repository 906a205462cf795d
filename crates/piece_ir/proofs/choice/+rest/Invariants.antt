use Rattle.std.proofs.Common.{◌≡◌, ◌+◌, ◌-◌, ◌*◌, length, map, ◌++◌, drop}
use Rattle.relations_spec.specs.Choices.{choices}
use Rattle.piece_ir_spec.specs.Views.{views_of}
use Rattle.piece_ir_spec.specs.Unfolding.{unfolded}
use Rattle.piece_ir.specs.Shown.{piece_of, shown_pieces, view_of, all_views_of, borrowed_views}
use Rattle.piece_ir.proofs.ChosenViews.{Part, from_views}
use Rattle.piece_ir.proofs.choice.+rest.Given as goal

abbrev pub decreases-unfold_from : goal.decreases-unfold_from
decreases-unfold_from l = 2 * (length l.by.now.piece.now.atoms.items - l.at)

abbrev pub decreases-unfold_after : goal.decreases-unfold_after
decreases-unfold_after l = 2 * (length l.by.now.piece.now.atoms.items - l.at) + 1

abbrev pub invariant-unfold_from-loop-view : goal.invariant-unfold_from-loop-view
invariant-unfold_from-loop-view l = Part
    (l.chosen.items ≡ l.initial.chosen.items)
    (shown_pieces l.news.items ++ from_views (unfolded (piece_of l.by.piece.now))
    (borrowed_views l.initial.chosen.items)
    (choices (map (views_of (all_views_of l.by.views.now))
    (drop (l.at + 1) l.by.piece.now.atoms.items))) (map view_of (drop l.view-index l.list))
    ≡ shown_pieces l.initial.news.items ++ from_views (unfolded (piece_of l.by.piece.now))
    (borrowed_views l.initial.chosen.items)
    (choices (map (views_of (all_views_of l.by.views.now))
    (drop (l.at + 1) l.by.piece.now.atoms.items))) (map view_of l.list))
