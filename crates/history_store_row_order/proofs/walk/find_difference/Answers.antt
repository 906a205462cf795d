use Rattle.std.proofs.Common.{rules, ◌≡◌, ◌+◌, ◌<◌, drop, length, get_or, arith, sym, ◌∙◌, ap, []}
use Rattle.std.proofs.Common.{◌∷◌, ◌++◌}
use Rattle.std.proofs.lemmas.Grind.{common_steps}
use Rattle.std.proofs.lemmas.List.{drop_more}
use Rattle.std.proofs.Math.ListN.{drop_of_length-le}
use Rattle.std.specs.Prelude.{Some, None}
use Rattle.std.specs.declared.cmp.Ordering.TheVariants.{Less, Equal, Greater}
use Rattle.history_store_row_order.specs.Logs.{cells_of}
use Rattle.history_store_row_order.specs.Rows.{row_now}
use Rattle.history_store_row_order.specs.Handing.{lost_ids, first_order, owners, no_owners}
use Rattle.history_store_row_order.specs.Handing.{gained_rows}
use Rattle.history_store_row_order.proofs.SideBySide.{live_rises, rows_rises, step_less, step_equal}
use Rattle.history_store_row_order.proofs.SideBySide.{step_greater}
use Rattle.history_store_row_order.proofs.SideBySide.{less_steps, equal_steps, new_steps, wide_rest}
use Rattle.history_store_row_order.proofs.SideBySide.{not_at_end}
use Rattle.history_store_row_order.proofs.SideBySide.{appended, taken, none_left}
use Rattle.history_store_row_order.proofs.walk.find_difference.Goals as goal

pub walk-preserved-in-Less : goal.walk-preserved-in-Less
walk-preserved-in-Less c =
    let w = c.walk.invariant in
    let h = c.walk-test.true in
    let C = cells_of c.args.columns.now in
    let e : first_order (row_now (get_or c.args.live.now c.walk.i 0) C)
    (drop c.walk.j c.args.rows.now) ≡ Less = sym c.order_at.ensures.order ∙ c.in-Less.is in
    let s = less_steps C (drop c.walk.i c.args.live.now) (drop c.walk.j c.args.rows.now) _ _
    (drop_more c.args.live.now c.walk.i 0 h) w.rows_rise e in
    let pushed : c.push.new.self.items ≡ c.walk.lost.items ++ get_or c.args.live.now c.walk.i 0
    ∷ [] = search rules in
    record {
      i_in = omega arith;
      j_in = w.j_in;
      found = step_less C c.args.live.now c.args.rows.now _ c.walk.lost.items c.walk.i c.walk.j h
          w.live_rise w.rows_rise w.found e ∙ ap
          (λ xs. xs ++ lost_ids C (drop (c.walk.i + 1) c.args.live.now)
          (drop c.walk.j c.args.rows.now)) (sym pushed);
      owned = w.owned ∙ ap (λ r. c.walk.owners.items ++ r) s.1;
      new = w.new ∙ ap (λ r. c.walk.gained.items ++ r) s.0;
      wide = w.wide;
      live_rise = live_rises C c.args.live.now c.args.rows.now _ c.walk.lost.items c.walk.i c.walk.j
          h w.live_rise w.rows_rise w.found;
      rows_rise = w.rows_rise;
    }

pub walk-preserved-in-Equal : goal.walk-preserved-in-Equal
walk-preserved-in-Equal c =
    let w = c.walk.invariant in
    let h = c.walk-test.true in
    let C = cells_of c.args.columns.now in
    let id = get_or c.args.live.now c.walk.i 0 in
    let e : first_order (row_now id C) (drop c.walk.j c.args.rows.now) ≡ Equal =
    sym c.order_at.ensures.order ∙ c.in-Equal.is in
    let b : c.walk.j < length c.args.rows.now =
    not_at_end _ c.args.rows.now c.walk.j _ e (λ x. cc) in
    let s = equal_steps C (drop c.walk.i c.args.live.now) (drop c.walk.j c.args.rows.now) _ _
    (drop_more c.args.live.now c.walk.i 0 h) _ _ (drop_more c.args.rows.now c.walk.j [] b)
    w.rows_rise e in
    let pushed : c.push-in-Equal.new.self.items ≡ c.walk.owners.items ++ Some id ∷ [] =
    grind (arith, common_steps) in
    record {
      i_in = omega arith;
      j_in = omega arith;
      found = step_equal C c.args.live.now c.args.rows.now _ c.walk.lost.items c.walk.i c.walk.j h
          w.live_rise w.rows_rise w.found b e;
      owned = appended _ c.walk.owners.items _ _ _ w.owned s.1
          ∙ ap (λ xs. xs ++ owners C (drop (c.walk.i + 1) c.args.live.now)
          (drop (c.walk.j + 1) c.args.rows.now)) (sym pushed);
      new = w.new ∙ ap (λ r. c.walk.gained.items ++ r) s.0;
      wide = wide_rest _ c.walk.j c.args.rows.now b w.wide;
      live_rise = live_rises C c.args.live.now c.args.rows.now _ c.walk.lost.items c.walk.i c.walk.j
          h w.live_rise w.rows_rise w.found;
      rows_rise = rows_rises C c.args.live.now c.args.rows.now _ c.walk.lost.items c.walk.i c.walk.j
          h w.live_rise w.rows_rise w.found b;
    }

pub walk-preserved : goal.walk-preserved
walk-preserved c =
    let w = c.walk.invariant in
    let h = c.walk-test.true in
    let C = cells_of c.args.columns.now in
    let row = c.index-rows-j.result in
    let later = drop (c.walk.j + 1) c.args.rows.now in
    let e : first_order (row_now (get_or c.args.live.now c.walk.i 0) C)
    (drop c.walk.j c.args.rows.now) ≡ Greater = sym c.order_at.ensures.order
    ∙ c.in-Greater.is in
    let b : c.walk.j < length c.args.rows.now =
    not_at_end _ c.args.rows.now c.walk.j _ e (λ x. cc) in
    let s = new_steps C (drop c.walk.i c.args.live.now) (drop c.walk.j c.args.rows.now) _ _
    (drop_more c.args.live.now c.walk.i 0 h) row later
    (taken c.args.rows.now c.walk.j row b c.index-rows-j.is) w.live_rise e in
    let pushed : c.push-in-Greater-2.new.self.items ≡ c.walk.owners.items ++ None ∷ [] =
    grind (arith, common_steps) in
    let gained : c.push-in-Greater.new.self.items ≡ c.walk.gained.items ++ row ∷ [] =
    grind (arith, common_steps) in
    record {
      i_in = w.i_in;
      j_in = omega arith;
      found = step_greater C c.args.live.now c.args.rows.now _ c.walk.lost.items c.walk.i c.walk.j h
          w.live_rise w.rows_rise w.found b e;
      owned = appended _ c.walk.owners.items _ _ _ w.owned s.1
          ∙ ap (λ xs. xs ++ owners C (drop c.walk.i c.args.live.now) later) (sym pushed);
      new = appended _ c.walk.gained.items _ _ _ w.new s.0
          ∙ ap (λ xs. xs ++ gained_rows C (drop c.walk.i c.args.live.now) later) (sym gained);
      wide = wide_rest _ c.walk.j c.args.rows.now b w.wide;
      live_rise = w.live_rise;
      rows_rise = rows_rises C c.args.live.now c.args.rows.now _ c.walk.lost.items c.walk.i c.walk.j
          h w.live_rise w.rows_rise w.found b;
    }

-- along the live ids to their end
pub returns-clause-owners : goal.returns-clause-owners
returns-clause-owners c =
    let w = c.walk.invariant in
    let C = cells_of c.args.columns.now in
    let J = drop c.walk.j c.args.rows.now in
    let end : drop c.walk.i c.args.live.now ≡ [] =
    drop_of_length-le c.args.live.now (omega (arith, c.walk-test.false)) in
    let more : c.add_new.new.owners.items ≡ c.walk.owners.items ++ no_owners J = search rules in
    sym (w.owned ∙ ap (λ is. c.walk.owners.items ++ owners C is J) end
    ∙ ap (λ os. c.walk.owners.items ++ os) (none_left C J).1 ∙ sym more)

pub returns-clause-gained : goal.returns-clause-gained
returns-clause-gained c =
    let w = c.walk.invariant in
    let C = cells_of c.args.columns.now in
    let J = drop c.walk.j c.args.rows.now in
    let end : drop c.walk.i c.args.live.now ≡ [] =
    drop_of_length-le c.args.live.now (omega (arith, c.walk-test.false)) in
    let more : c.add_new.new.gained.items ≡ c.walk.gained.items ++ J = search rules in
    sym (w.new ∙ ap (λ is. c.walk.gained.items ++ gained_rows C is J) end
    ∙ ap (λ rs. c.walk.gained.items ++ rs) (none_left C J).0 ∙ sym more)
