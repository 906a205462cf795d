use Rattle.std.proofs.Common.{rules, get_or, ◌≡◌, ◌<◌, length, arith}
use Rattle.std.proofs.lemmas.Grind.{common_steps}
use Rattle.history_store_writes.proofs.Others.{one_more, others_rest}
use Rattle.version_groups_changes.specs.PendingChanges.{IsToldToo}
use Rattle.version_groups_changes.proofs.pending_row.tell_each.Goals as goal

pub loop-k-preserved : goal.loop-k-preserved
loop-k-preserved c =
    let w = c.loop-k.invariant in
    let was : c.index_mut.result.now ≡ get_or c.loop-k.led.items c.loop-k.k c.index_mut.result.now =
    search rules in
    let h : c.loop-k.k < length c.loop-k.led.items = grind (arith, common_steps) in
    record {
      long = w.long;
      done = one_more c.args.led.now.items c.loop-k.led.items c.loop-k.k c.index_mut.result.now
          c.tell.new.self h was (IsToldToo c.args.row.now c.args.told) c.in_ok-tell.ensures w.done
          w.rest;
      rest = others_rest c.args.led.now.items c.loop-k.led.items c.loop-k.k c.index_mut.result.now
          c.tell.new.self h was w.rest;
    }
