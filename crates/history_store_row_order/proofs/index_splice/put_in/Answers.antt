use Rattle.std.proofs.Common.{rules, ◌≡◌, ◌+◌, ◌++◌, [], ◌∷◌, length, take, drop, arith, sym, ap}
use Rattle.std.proofs.Common.{◌∙◌, subst, inl, refl}
use Rattle.std.proofs.lemmas.Grind.{common_steps}
use Rattle.std.proofs.lemmas.List.{take-append-drop}
use Rattle.std.proofs.Math.ListN.{drop_of_length-le}
use Rattle.history_store_row_order.specs.Logs.{cells_of}
use Rattle.history_store_row_order.specs.Rows.{AllWidth}
use Rattle.history_store_row_order.specs.Handing.{handed, id_by, lost_by, next_by}
use Rattle.history_store_row_order.proofs.SideBySide.{taken}
use Rattle.history_store_row_order.proofs.Splicing.{IsPut, put_first, put_next, put_all, all_low}
use Rattle.history_store_row_order.proofs.Splicing.{all_high}
use Rattle.history_store_row_order.proofs.Splicing.{handed_next}
use Rattle.history_store_row_order.proofs.index_splice.put_in.Goals as goal

pub free_place-requires-clause-known : goal.free_place-requires-clause-known
free_place-requires-clause-known c = λ id i k d b.
    c.requires.known id (c.loop-row.invariant.put.rest_in id i) k d b

pub free_place-requires-clause-rise : goal.free_place-requires-clause-rise
free_place-requires-clause-rise c = c.loop-row.invariant.put.rest_rise

pub free_place-requires-clause-fresh : goal.free_place-requires-clause-fresh
free_place-requires-clause-fresh c =
    let e = taken c.args.gained.now c.loop-row.row-index c.row-item.result c.loop-row-test.true
    c.row-item.is in
    c.loop-row.invariant.put.fresh c.row-item.result (rw e (inl refl))

pub loop-row-preserved : goal.loop-row-preserved
loop-row-preserved c =
    let w = c.loop-row.invariant in
    let C = cells_of c.args.columns.now in
    let ids = handed c.args.lost.now c.args.next c.args.gained.now in
    let K = drop c.loop-row.k c.args.lost.now in
    let rest = c.loop-row.rest.now in
    let at = c.free_place.result in
    let row = c.row-item.result in
    let later = drop (c.loop-row.row-index + 1) c.args.gained.now in
    let e : drop c.loop-row.row-index c.args.gained.now ≡ row ∷ later =
    taken c.args.gained.now c.loop-row.row-index row c.loop-row-test.true c.row-item.is in
    let p : rest ≡ take at rest ++ drop at rest = sym (take-append-drop at rest) in
    let h : handed K c.loop-row.fresh (drop c.loop-row.row-index c.args.gained.now)
    ≡ id_by [] K c.loop-row.fresh ∷ handed (lost_by [] K) (next_by [] K c.loop-row.fresh)
    later = ap (handed K c.loop-row.fresh) e ∙ handed_next K c.loop-row.fresh row later in
    let t1 = subst (λ ls. IsPut C c.args.kept.now ids c.loop-row.after.items rest
    (handed K c.loop-row.fresh (drop c.loop-row.row-index c.args.gained.now)) c.args.gained.now
    ls) e w.put in
    let t2 = subst (λ hs. IsPut C c.args.kept.now ids c.loop-row.after.items rest hs
    c.args.gained.now (row ∷ later)) h t1 in
    let t3 = subst (λ r. IsPut C c.args.kept.now ids c.loop-row.after.items r
    (id_by [] K c.loop-row.fresh ∷ handed (lost_by [] K) (next_by [] K c.loop-row.fresh) later)
    c.args.gained.now (row ∷ later)) p t2 in
    let f = c.free_place.ensures.before in
    let g = c.free_place.ensures.after in
    let next = put_next C c.args.kept.now ids c.loop-row.after.items (take at rest) (drop at rest)
    (handed (lost_by [] K) (next_by [] K c.loop-row.fresh) later) (id_by [] K c.loop-row.fresh)
    c.args.gained.now later row t3 (all_low C rest row at c.free_place.ensures.within f)
    (all_high C rest row at g) in
    let prefix : c.extend_from_slice.new.self.items ≡ c.loop-row.after.items ++ take at rest =
    search rules in
    let pushed : c.push.new.self.items ≡ c.extend_from_slice.new.self.items ++ c.handed_id.result
    ∷ [] = search rules in
    let wide : AllWidth (length c.args.columns.now) (row ∷ later) =
    subst (AllWidth (length c.args.columns.now)) e w.wide in
    record {
      put = rw (
        pushed,
        prefix,
        c.split_at.ensures.back,
        c.handed_id.ensures.id,
        c.handed_id.ensures.lost,
        c.handed_id.ensures.fresh,
      ) next;
      wide = wide.1;
      few = omega (arith, w.few, c.handed_id.ensures.few);
    }

pub returns : goal.returns
returns c =
    let w = c.loop-row.invariant in
    let C = cells_of c.args.columns.now in
    let ids = handed c.args.lost.now c.args.next c.args.gained.now in
    let e : drop c.loop-row.row-index c.args.gained.now ≡ [] =
    drop_of_length-le c.args.gained.now (grind (arith, common_steps)) in
    let after : c.extend_from_slice-2.new.self.items ≡ c.loop-row.after.items
    ++ c.loop-row.rest.now = search rules in
    rw after (put_all C c.args.kept.now ids c.loop-row.after.items c.loop-row.rest.now
    c.args.gained.now (rw e at w.put))

pub loop-row-init : goal.loop-row-init
loop-row-init c =
    let none : c.in_ok-after.after.items ≡ [] = search rules in
    record {
      put = rw none (put_first (cells_of c.args.columns.now) c.args.kept.now
          (handed c.args.lost.now c.args.next c.args.gained.now) c.args.gained.now
          c.requires.kept_rise c.requires.gained_rise c.requires.fresh);
      wide = c.requires.wide;
      few = omega arith;
    }
