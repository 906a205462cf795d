use Rattle.std.proofs.Common.{rules, get_or, ◌≡◌, ◌<◌, ◌≤◌, length, arith, ◌∙◌, subst, ℕ}
use Rattle.std.proofs.lemmas.Grind.{common_steps}
use Rattle.history_store_writes.specs.ValueIndexes.{Indexed}
use Rattle.history_store_writes.proofs.Others.{least_room_more, same_index, room_each}
use Rattle.history_store_writes.proofs.other_index.reserve_each.Goals as goal

trans : {a b c : ℕ} → a ≤ b → b ≤ c → a ≤ c
trans {a} {b} {c} h k = omega arith

pub returns-in_err-reserve-clause-kept : goal.returns-in_err-reserve-clause-kept
returns-in_err-reserve-clause-kept c = λ room.
    let w = c.loop-k.invariant in
    let was : c.index_mut.result.now ≡ get_or c.loop-k.others.items c.loop-k.k
    c.index_mut.result.now = search rules in
    let h : c.loop-k.k < length c.loop-k.others.items = grind (arith, common_steps) in
    trans (w.kept room) (least_room_more c.loop-k.others.items c.loop-k.k c.reserve.new.self
    c.index_mut.result.now room h (subst (λ (x : Indexed). x.room ≤ c.reserve.new.self.room) was
    c.reserve.ensures.kept))

pub loop-k-preserved : goal.loop-k-preserved
loop-k-preserved c =
    let w = c.loop-k.invariant in
    let was : c.index_mut.result.now ≡ get_or c.loop-k.others.items c.loop-k.k
    c.index_mut.result.now = search rules in
    let h : c.loop-k.k < length c.loop-k.others.items = grind (arith, common_steps) in
    record {
      long = w.long;
      same = λ j d b.
          let one = same_index c.loop-k.others.items c.loop-k.k j c.reserve.new.self d
          c.index_mut.result.now h was c.reserve.ensures.column c.reserve.ensures.ids in
          let rest = w.same j d b in
          (one.0 ∙ rest.0, one.1 ∙ rest.1);
      kept = λ room. trans (w.kept room) (least_room_more c.loop-k.others.items c.loop-k.k
          c.reserve.new.self c.index_mut.result.now room h
          (subst (λ (x : Indexed). x.room ≤ c.reserve.new.self.room) was c.reserve.ensures.kept));
      room = room_each c.loop-k.others.items c.loop-k.k c.args.more c.reserve.new.self h
          (search rules) w.room;
    }
