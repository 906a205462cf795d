use Rattle.std.proofs.Common.{rules, ◌≡◌, ◌<◌, length, refl, arith, ◌∙◌, vec_len}
use Rattle.std.proofs.lemmas.Grind.{common_steps}
use Rattle.history_store_row_order.specs.Logs.{cells_of}
use Rattle.history_store_writes.proofs.Others.{same_others, same_columns}
use Rattle.history_store.proofs.table.StoredTable.reserve_for.Goals as goal

pub invariant_of-self : goal.invariant_of-self
invariant_of-self c =
    let a = c.self.inside in
    let r = c.reserve_rows.ensures in
    let n : length c.reserve_rows.new.others.items ≡ length a.others.items =
    grind (arith, common_steps) in
    record {
      kept = rw (r.keys, r.cells, r.live) c.self.invariant.kept;
      ids = search rules;
      kinds = r.kinds ∙ c.self.invariant.kinds;
      counted = rw r.cells c.self.invariant.counted;
      others = same_others (cells_of a.logs.items) _ a.live.ids _ a.others.items _ r.cells r.live n
          (λ k d h. (let b : k < vec_len a.others = grind (arith, common_steps) in r.others k d b))
          c.self.invariant.others;
    }

pub returns-clause-same : goal.returns-clause-same
returns-clause-same c =
    let a = c.self.inside in
    let r = c.reserve_rows.ensures in
    let n : length c.reserve_rows.new.others.items ≡ length a.others.items =
    grind (arith, common_steps) in
    let i = same_columns a.others.items c.reserve_rows.new.others.items n
    (λ k d h. (let b : k < vec_len a.others = grind (arith, common_steps) in
    (r.others k d b).0)) in
    rw (← c.self.view_is, r.keys, r.cells, i) refl

pub returns-clause-room : goal.returns-clause-room
returns-clause-room c = rw c.in_ok-room.ensures at c.reserve_rows.ensures.room
