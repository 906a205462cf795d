use Rattle.std.proofs.Common.{◌≡◌, drop}
use Rattle.piece_ir_spec.specs.Views.{views_of}
use Rattle.piece_ir.specs.Shown.{all_views_of}
use Rattle.piece_ir.proofs.choice.views_of.Given as goal

abbrev pub invariant-loop-named : goal.invariant-loop-named
invariant-loop-named l = views_of (all_views_of l.views) l.table
    ≡ views_of (all_views_of (drop l.named-index l.views)) l.table
