use Rattle.std.proofs.Common.{◌≡◌, ◌+◌, ◌<◌, ◌≤◌, true, [], ◌∷◌, ◌++◌, take, length, get_or, refl}
use Rattle.std.proofs.Common.{sym, ap, ◌∙◌, subst, arith}
use Rattle.std.proofs.lemmas.Grind.{common_steps}
use Rattle.std.proofs.lemmas.List.{get_or-set_other, take_more}
use Rattle.std.proofs.Math.ListN.{length-set}
use Rattle.prima_base.specs.Order.{shown}
use Rattle.history_store_columns.specs.Log.{Log}
use Rattle.prima_base.specs.Columns.{has_type}
use Rattle.history_store_columns.specs.Puts.{put}
use Rattle.history_store_columns.specs.StoredValues.{text_room}
use Rattle.history_store_writes.specs.RowRoom.{row_room}
use Rattle.history_store_writes.proofs.Room.{room_at}
use Rattle.history_store_writes.proofs.Rows.{put_row-nil, pushed, done_more, kinds_kept, of_kind}
use Rattle.history_store_writes.proofs.row_change.put_row.Goals as goal

pub loop-k-init : goal.loop-k-init
loop-k-init c = record {
  long = refl;
  cells = put_row-nil _ _ _;
  kinds = refl;
  done = λ j d h. absurd (omega arith);
  others = λ j d h. refl;
}

pub put-requires-clause-room : goal.put-requires-clause-room
put-requires-clause-room c =
    let i = c.loop-k.invariant in
    let v = shown c.value.result in
    let x = c.index-columns-k.result in
    let b : c.loop-k.k < length c.args.row.now = grind (arith, common_steps) in
    let l : c.loop-k.k < length c.args.columns.now = omega (arith, b, c.requires.width) in
    let more : text_room v < row_room c.args.row.now =
    subst (λ w. text_room w < row_room c.args.row.now) (sym c.value.ensures.value)
    (room_at c.args.row.now c.loop-k.k v b) in
    let least : row_room c.args.row.now ≤ (get_or c.args.columns.now c.loop-k.k x).spare =
    c.requires.room c.loop-k.k x l in
    rw (i.others c.loop-k.k x (omega arith)) (omega (arith, more, least))

pub put-requires-clause-typed : goal.put-requires-clause-typed
put-requires-clause-typed c =
    let i = c.loop-k.invariant in
    let v = shown c.value.result in
    let x = c.index-columns-k.result in
    let b : c.loop-k.k < length c.args.row.now = grind (arith, common_steps) in
    let t : has_type (get_or c.args.columns.now c.loop-k.k x).kind v ≡ true =
    subst (λ w. has_type (get_or c.args.columns.now c.loop-k.k x).kind w ≡ true)
    (sym c.value.ensures.value) (of_kind c.args.columns.now c.args.row.now c.loop-k.k x v
    c.requires.typed b) in
    rw (i.others c.loop-k.k x (omega arith)) t

pub loop-k-preserved : goal.loop-k-preserved
loop-k-preserved c =
    let i = c.loop-k.invariant in
    let k = c.loop-k.k in
    let v = shown c.value.result in
    let x = c.index-columns-k.result in
    let row = c.args.row.now in
    let b : k < length row = grind (arith, common_steps) in
    let bo : k < length c.args.columns.now = omega (arith, b, c.requires.width) in
    let bn : k < length c.loop-k.columns = omega (arith, bo, i.long) in
    let more : text_room v < row_room row = subst (λ w. text_room w < row_room row)
    (sym c.value.ensures.value) (room_at row k v b) in
    let was : (get_or c.loop-k.columns k x).spare ≤ c.put.new.self.spare + text_room v + 1 =
    c.put.ensures.spare in
    let spare : (get_or c.loop-k.columns k x).spare ≤ c.put.new.self.spare + row_room row =
    omega (arith, was, more) in
    let e : c.put.new.self.cells ≡ put c.args.id v c.args.stamp
    (get_or c.args.columns.now k x).cells = c.put.ensures.cells
    ∙ ap (λ (l : Log). put c.args.id v c.args.stamp l.cells) (i.others k x (omega arith)) in
    let n : k ≡ length (take k row) = grind (arith, common_steps) in
    let t : take (k + 1) row ≡ take k row ++ v ∷ [] =
    subst (λ w. take (k + 1) row ≡ take k row ++ w ∷ []) (sym c.value.ensures.value)
    (take_more row k v b) in
    record {
      long = length-set _ _ _ ∙ i.long;
      cells = rw t (pushed c.args.id c.args.stamp v (take k row) c.args.columns.now c.loop-k.columns
          k c.put.new.self x n bo i.cells e);
      kinds = kinds_kept c.loop-k.columns k c.put.new.self x bn c.put.ensures.kind ∙ i.kinds;
      done = done_more c.args.columns.now c.loop-k.columns k c.args.id (row_room row) c.put.new.self
          x bn c.index-columns-k.is c.put.ensures.ids spare i.done i.others;
      others = λ j d h. get_or-set_other c.loop-k.columns k j c.put.new.self d (omega arith)
          ∙ i.others j d (omega arith);
    }
