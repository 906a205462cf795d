use Rattle.cond_expr.proofs.PinnedLaws.{pinned_holds}
use Rattle.cond_expr.proofs.pin.pinned_parts_hold.Goals as goal

pub returns : goal.returns
returns c = λ at o column t v h e. pinned_holds at o column t v h e
