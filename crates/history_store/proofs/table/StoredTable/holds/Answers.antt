use Rattle.std.proofs.Common.{rules, ◌≡◌, ◌≢◌, length, refl, ap, sym, ◌∙◌, arith}
use Rattle.std.proofs.lemmas.Grind.{common_steps}
use Rattle.history_store_row_order.specs.Logs.{cells_of}
use Rattle.history_store_row_order.proofs.Cells.{length-cells_of}
use Rattle.history_store_change_spec.proofs.Preparing.{all_known}
use Rattle.history_store_change_spec.proofs.Reading.{not_wide, found_has, not_found, now_stays}
use Rattle.history_store.proofs.table.StoredTable.holds.Goals as goal

pub place_in-requires-clause-width : goal.place_in-requires-clause-width
place_in-requires-clause-width c =
    let a = c.self.inside in
    let e : length c.args.row.now ≡ length a.columns.items = search rules in
    e ∙ sym c.self.invariant.kept.width ∙ length-cells_of a.logs.items
    ∙ ap length (sym c.deref.ensures.value)

pub place_in-requires-clause-known : goal.place_in-requires-clause-known
place_in-requires-clause-known c =
    let a = c.self.inside in
    all_known a.live.ids a.live.ids a.keys.items a.logs.items c.deref.result.now refl
    c.deref.ensures.value c.self.invariant.kept.stored.are_open c.self.invariant.ids

pub returns-then-len-clause-now : goal.returns-then-len-clause-now
returns-then-len-clause-now c m l h =
    let a = c.self.inside in
    let b = rw (← c.self.view_is) at h in
    let n : length c.args.row.now ≢ length a.columns.items = grind (arith, common_steps) in
    rw (← c.self.view_is) (not_wide a.columns.items a.keys.items (cells_of a.logs.items) a.live.ids
    _ c.self.invariant.kept c.args.row.now m l b n)

pub returns-in-Ok-clause-now : goal.returns-in-Ok-clause-now
returns-in-Ok-clause-now c m l h =
    let a = c.self.inside in
    let b = rw (← c.self.view_is) at h in
    let f = rw c.deref.ensures.value at c.in-Ok.ensures.found in
    rw (← c.self.view_is) (found_has a.columns.items a.keys.items (cells_of a.logs.items) a.live.ids
    _ c.self.invariant.kept c.args.row.now m l b c.in-Ok.field-0 f.0 f.1)

pub returns-in-Err-clause-now : goal.returns-in-Err-clause-now
returns-in-Err-clause-now c m l h =
    let a = c.self.inside in
    let b = rw (← c.self.view_is) at h in
    let f = rw c.deref.ensures.value at c.in-Err.ensures.before in
    let g = rw c.deref.ensures.value at c.in-Err.ensures.after in
    rw (← c.self.view_is) (not_found a.columns.items a.keys.items (cells_of a.logs.items) a.live.ids
    _ c.self.invariant.kept c.args.row.now m l b c.in-Err.field-0 f g)

pub returns-then-len-clause-still : goal.returns-then-len-clause-still
returns-then-len-clause-still c m n d l h =
    let a = c.self.inside in
    let b = rw (← c.self.view_is) at h in
    rw (← c.self.view_is) (now_stays a.columns.items a.keys.items (cells_of a.logs.items) a.live.ids
    _ m n c.self.invariant.kept b d l)

pub returns-in-Ok-clause-still : goal.returns-in-Ok-clause-still
returns-in-Ok-clause-still c m n d l h =
    let a = c.self.inside in
    let b = rw (← c.self.view_is) at h in
    rw (← c.self.view_is) (now_stays a.columns.items a.keys.items (cells_of a.logs.items) a.live.ids
    _ m n c.self.invariant.kept b d l)

pub returns-in-Err-clause-still : goal.returns-in-Err-clause-still
returns-in-Err-clause-still c m n d l h =
    let a = c.self.inside in
    let b = rw (← c.self.view_is) at h in
    rw (← c.self.view_is) (now_stays a.columns.items a.keys.items (cells_of a.logs.items) a.live.ids
    _ m n c.self.invariant.kept b d l)
