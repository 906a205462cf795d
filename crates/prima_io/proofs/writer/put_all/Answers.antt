use Rattle.std.proofs.Common.{◌∙◌, arith, length-drop, length-take, ℕ}
use Rattle.prima_io.proofs.Pieces.{put_more}
use Rattle.prima_io.proofs.writer.put_all.Goals as goal

pub pieces-preserved : goal.pieces-preserved
pieces-preserved g c = (
  omega (arith, length-drop {A = ℕ}, length-take {A = ℕ}, c.in_ok-at.ensures.bound),
  c.in_ok-at.ensures.cause.kept ∙ c.pieces.invariant.1,
  put_more _ _ _ _ _ _ c.pieces.invariant.2 c.in_ok-at.ensures.bytes,
)
