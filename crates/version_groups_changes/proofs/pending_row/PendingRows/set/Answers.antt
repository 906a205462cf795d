use Rattle.std.proofs.Common.{◌≡◌, ◌<◌, length, arith, vec_len}
use Rattle.std.specs.Prelude.{All}
use Rattle.std.proofs.lemmas.Grind.{common_steps}
use Rattle.version_groups_changes.specs.PendingChanges.{Led, AreLed}
use Rattle.version_groups_changes.proofs.LedRows.{all_set}
use Rattle.version_groups_changes.proofs.pending_row.PendingRows.set.Goals as goal

pub invariant_of-self-2 : goal.invariant_of-self-2
invariant_of-self-2 c =
    let rows = c.self.inside.rows.entries in
    let was : All (λ (led : Led). AreLed led.column rows led.rows) c.replace-led.result.items =
    rw c.replace-led.ensures.value c.self.invariant in
    let same : length c.tell_each.new.led.items ≡ length c.replace-led.result.items =
    grind (arith, common_steps) in
    all_set c.args.row c.args.told rows c.tell.new.rows.entries c.replace-led.result.items
    c.tell_each.new.led.items same was c.in_ok-tell.ensures
    (λ k d h. (let b : k < vec_len c.replace-led.result = grind (arith, common_steps) in
    c.in_ok-tell_each.ensures.each k d b))
