use Rattle.std.proofs.Common.{◌≡◌, [], drop, arith}
use Rattle.std.specs.Vec.Iter.{into_iter_items}
use Rattle.std.proofs.lemmas.Grind.{common_steps}
use Rattle.std.proofs.lemmas.List.{nil_from_length}
use Rattle.history_store_writes.proofs.Rows.{no_more}
use Rattle.history_store_writes.proofs.row_change.hand_rows.Goals as goal

pub returns-clause-keys : goal.returns-clause-keys
returns-clause-keys c =
    let none : into_iter_items c.loop-row.row-iterator ≡ [] =
    nil_from_length _ (grind (arith, common_steps)) in
    no_more c.loop-row.keys.items _ (into_iter_items c.loop-row.row-iterator) c.args.stamp
    (drop c.loop-row.i c.args.lost.now) none c.loop-row.invariant.keys
