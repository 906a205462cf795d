use Rattle.std.proofs.Common.{ℕ, ◌-◌, ◌≤◌, length, arith, vec_len, vec_capacity}
use Rattle.std.proofs.lemmas.Grind.{common_steps}
use Rattle.std.proofs.lemmas.Result.{on_ok_weaker}
use Rattle.std.proofs.Math.Nat.{le-min}
use Rattle.history_store_writes.specs.ValueIndexes.{least_room}
use Rattle.history_store_row_order.specs.Logs.{few_of}
use Rattle.history_store_writes.specs.Logs.{with_index}
use Rattle.history_store_writes.proofs.Rows.{least_up, least_from, less_up}
use Rattle.history_store_writes.proofs.Carry.{more_with_index, some_with_index, least_is}
use Rattle.history_store_writes.proofs.Others.{least_room_up, least_room_is}
use Rattle.history_store_writes.proofs.row_change.reserve_rows.Goals as goal

trans : {a b c : ℕ} → a ≤ b → b ≤ c → a ≤ c
trans {a} {b} {c} h k = omega arith

pub returns-in_err-reserve-clause-spare : goal.returns-in_err-reserve-clause-spare
returns-in_err-reserve-clause-spare c =
    let few = few_of (length c.args.live.now.ids) in
    let room = least_room c.args.live.now.room c.args.others.now.items in
    less_up _ _ _ (least_up (with_index few room
    (vec_capacity c.args.keys.now - vec_len c.args.keys.now))
    (with_index few room (vec_capacity c.reserve.new.self - vec_len c.reserve.new.self))
    c.args.columns.now.items (more_with_index few room room _ _ (omega arith)
    (grind (arith, common_steps))))

pub returns-in_err-reserve-2-clause-spare : goal.returns-in_err-reserve-2-clause-spare
returns-in_err-reserve-2-clause-spare c =
    let few = few_of (length c.args.live.now.ids) in
    let room = least_room c.args.live.now.room c.args.others.now.items in
    let then' = least_room c.reserve-2.new.self.room c.args.others.now.items in
    let more = least_room_up c.args.live.now.room c.reserve-2.new.self.room c.args.others.now.items
    c.reserve-2.ensures.kept in
    rw c.reserve-2.ensures.ids (less_up _ _ _
    (least_up (with_index few room (vec_capacity c.args.keys.now - vec_len c.args.keys.now))
    (with_index few then' (vec_capacity c.reserve.new.self - vec_len c.reserve.new.self))
    c.args.columns.now.items (more_with_index few room then' _ _ more
    (grind (arith, common_steps)))))

pub returns-in_err-reserve_each-clause-spare : goal.returns-in_err-reserve_each-clause-spare
returns-in_err-reserve_each-clause-spare c =
    let few = few_of (length c.args.live.now.ids) in
    let room = least_room c.args.live.now.room c.args.others.now.items in
    let then' = least_room c.reserve-2.new.self.room c.reserve_each.new.others.items in
    let more = trans (least_room_up c.args.live.now.room c.reserve-2.new.self.room
    c.args.others.now.items c.reserve-2.ensures.kept)
    (c.reserve_each.ensures.kept c.reserve-2.new.self.room) in
    rw c.reserve-2.ensures.ids (less_up _ _ _
    (least_up (with_index few room (vec_capacity c.args.keys.now - vec_len c.args.keys.now))
    (with_index few then' (vec_capacity c.reserve.new.self - vec_len c.reserve.new.self))
    c.args.columns.now.items (more_with_index few room then' _ _ more
    (grind (arith, common_steps)))))

pub returns-clause-spare : goal.returns-clause-spare
returns-clause-spare c =
    let few = few_of (length c.args.live.now.ids) in
    let room = least_room c.args.live.now.room c.args.others.now.items in
    let then' = least_room c.reserve-2.new.self.room c.reserve_each.new.others.items in
    let more = trans (least_room_up c.args.live.now.room c.reserve-2.new.self.room
    c.args.others.now.items c.reserve-2.ensures.kept)
    (c.reserve_each.ensures.kept c.reserve-2.new.self.room) in
    rw (c.reserve-2.ensures.ids, c.reserve_all.ensures.cells)
    (less_up _ _ _ (least_from (with_index few room
    (vec_capacity c.args.keys.now - vec_len c.args.keys.now))
    (with_index few then' (vec_capacity c.reserve.new.self - vec_len c.reserve.new.self))
    c.args.columns.now.items c.reserve_all.new.columns.items
    (more_with_index few room then' _ _ more (grind (arith, common_steps)))
    c.reserve_all.ensures.spare))

pub returns-clause-room : goal.returns-clause-room
returns-clause-room c =
    let few = few_of (length c.args.live.now.ids) in
    let then' = least_room c.reserve-2.new.self.room c.reserve_each.new.others.items in
    let each = least_room_is c.min-few.result c.reserve-2.new.self.room
    c.reserve_each.new.others.items c.in_ok-reserve-2.ensures.room
    c.in_ok-reserve_each.ensures.room in
    rw (c.reserve-2.ensures.ids, c.reserve_all.ensures.cells) (on_ok_weaker c.reserve_all.result
    (λ room. le-min (least_is c.args.more (with_index few then'
    (vec_capacity c.reserve.new.self - vec_len c.reserve.new.self))
    c.reserve_all.new.columns.items
    (some_with_index few then' _ c.args.more _
    (rw (c.few_of.ensures, c.len.ensures) at c.min-few.ensures) each
    (grind (arith, common_steps))) room) (rw c.deref.ensures.value at
    c.in_ok-check_count.ensures))
    c.reserve_all.ensures.room)
