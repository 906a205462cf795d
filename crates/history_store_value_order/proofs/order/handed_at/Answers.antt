use Rattle.std.proofs.Common.{◌≤◌, length, sym}
use Rattle.history_store_value_order.proofs.Marks.{handed_lost, handed_new}
use Rattle.history_store_value_order.proofs.order.handed_at.Goals as goal

pub returns-then-at-lost : goal.returns-then-at-lost
returns-then-at-lost c n h = sym (handed_lost c.args.lost.now c.args.next n c.args.at
    c.if-at-lost.true h)

pub returns : goal.returns
returns c n h = let l : length c.args.lost.now ≤ c.args.at = c.if-at-lost.false in
    sym (handed_new c.args.lost.now c.args.next n c.args.at l h)
