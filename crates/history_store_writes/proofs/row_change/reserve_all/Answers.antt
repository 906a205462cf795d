use Rattle.std.proofs.Common.{rules, ap, get_or, ◌≡◌, ◌<◌, ◌≤◌, length, arith, ◌∙◌, subst, ℕ}
use Rattle.std.proofs.lemmas.Grind.{common_steps}
use Rattle.history_store_columns.specs.Log.{Log}
use Rattle.history_store_row_order.proofs.Cells.{cells_kept}
use Rattle.history_store_writes.proofs.Rows.{kinds_kept, ids_kept, room_more, least_more}
use Rattle.history_store_writes.proofs.row_change.reserve_all.Goals as goal

trans : {a b c : ℕ} → a ≤ b → b ≤ c → a ≤ c
trans {a} {b} {c} h k = omega arith

pub returns-in_err-reserve-clause-spare : goal.returns-in_err-reserve-clause-spare
returns-in_err-reserve-clause-spare c = λ least.
    let w = c.loop-k.invariant in
    let was : c.index_mut.result.now ≡ get_or c.loop-k.columns.items c.loop-k.k
    c.index_mut.result.now = search rules in
    let h : c.loop-k.k < length c.loop-k.columns.items = grind (arith, common_steps) in
    trans (w.spare least) (least_more c.loop-k.columns.items c.loop-k.k c.reserve.new.self
    c.index_mut.result.now least h (subst (λ (x : Log). x.spare ≤ c.reserve.new.self.spare) was
    c.reserve.ensures.spare))

pub returns-in_err-reserve-clause-cells : goal.returns-in_err-reserve-clause-cells
returns-in_err-reserve-clause-cells c =
    let w = c.loop-k.invariant in
    let was : c.index_mut.result.now ≡ get_or c.loop-k.columns.items c.loop-k.k
    c.index_mut.result.now = search rules in
    let h : c.loop-k.k < length c.loop-k.columns.items = grind (arith, common_steps) in
    cells_kept c.loop-k.columns.items c.loop-k.k c.reserve.new.self c.index_mut.result.now h
    (c.reserve.ensures.cells ∙ ap (λ (x : Log). x.cells) was) ∙ w.cells

pub returns-in_err-reserve-clause-kinds : goal.returns-in_err-reserve-clause-kinds
returns-in_err-reserve-clause-kinds c =
    let w = c.loop-k.invariant in
    let was : c.index_mut.result.now ≡ get_or c.loop-k.columns.items c.loop-k.k
    c.index_mut.result.now = search rules in
    let h : c.loop-k.k < length c.loop-k.columns.items = grind (arith, common_steps) in
    kinds_kept c.loop-k.columns.items c.loop-k.k c.reserve.new.self c.index_mut.result.now h
    (c.reserve.ensures.kind ∙ ap (λ (x : Log). x.kind) was) ∙ w.kinds

pub loop-k-preserved : goal.loop-k-preserved
loop-k-preserved c =
    let w = c.loop-k.invariant in
    let was : c.index_mut.result.now ≡ get_or c.loop-k.columns.items c.loop-k.k
    c.index_mut.result.now = search rules in
    let h : c.loop-k.k < length c.loop-k.columns.items = grind (arith, common_steps) in
    record {
      long = w.long;
      cells = cells_kept c.loop-k.columns.items c.loop-k.k c.reserve.new.self c.index_mut.result.now
          h (c.reserve.ensures.cells ∙ ap (λ (x : Log). x.cells) was) ∙ w.cells;
      kinds = kinds_kept c.loop-k.columns.items c.loop-k.k c.reserve.new.self c.index_mut.result.now
          h (c.reserve.ensures.kind ∙ ap (λ (x : Log). x.kind) was) ∙ w.kinds;
      spare = λ least. trans (w.spare least) (least_more c.loop-k.columns.items c.loop-k.k
          c.reserve.new.self c.index_mut.result.now least h
          (subst (λ (x : Log). x.spare ≤ c.reserve.new.self.spare) was c.reserve.ensures.spare));
      ids = λ j d b. ids_kept c.loop-k.columns.items c.loop-k.k j c.reserve.new.self d
          c.index_mut.result.now h (c.reserve.ensures.ids ∙ ap (λ (x : Log). x.ids) was)
          ∙ w.ids j d b;
      room = room_more c.loop-k.columns.items c.loop-k.k c.args.more c.reserve.new.self h
          (search rules) w.room;
    }
