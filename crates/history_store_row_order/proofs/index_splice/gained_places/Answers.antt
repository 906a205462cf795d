use Rattle.std.proofs.Common.{rules, ◌≡◌, ◌+◌, ◌++◌, [], ◌∷◌, length, drop, arith, sym, ap, ◌∙◌}
use Rattle.std.proofs.Common.{subst}
use Rattle.std.proofs.lemmas.Grind.{common_steps}
use Rattle.std.proofs.Math.ListN.{drop_of_length-le}
use Rattle.relations_spec.specs.Sets.{In}
use Rattle.history_store_row_order.specs.Logs.{cells_of}
use Rattle.history_store_row_order.specs.Rows.{AllWidth}
use Rattle.history_store_row_order.specs.Handing.{handed, id_by, lost_by, next_by}
use Rattle.history_store_value_order.proofs.Places.{in_get}
use Rattle.history_store_row_order.proofs.SideBySide.{taken}
use Rattle.history_store_row_order.proofs.Splicing.{handed_next}
use Rattle.history_store_row_order.proofs.Places.{Come, come_first, come_next, come_all, left_there}
use Rattle.history_store_row_order.proofs.index_splice.gained_places.Goals as goal

pub free_in-free-requires-clause-fresh : goal.free_in-free-requires-clause-fresh
free_in-free-requires-clause-fresh c =
    let gained = c.args.gained.now in
    c.requires.fresh c.row-item.result (subst (λ r. In r gained) (sym c.row-item.is)
    (in_get gained c.loop-row.row-index c.row-item.result c.loop-row-test.true))

pub loop-row-preserved : goal.loop-row-preserved
loop-row-preserved c =
    let w = c.loop-row.invariant in
    let C = cells_of c.args.columns.now in
    let live = c.args.live.now.ids in
    let from = c.args.from.now in
    let gained = c.args.gained.now in
    let ids = handed c.args.lost.now c.args.next gained in
    let K = drop c.loop-row.k c.args.lost.now in
    let free = c.free_in-free.result in
    let row = c.row-item.result in
    let to = c.loop-row.to.items in
    let later = drop (c.loop-row.row-index + 1) gained in
    let e : drop c.loop-row.row-index gained ≡ row ∷ later =
    taken gained c.loop-row.row-index row c.loop-row-test.true c.row-item.is in
    let h : handed K c.loop-row.fresh (drop c.loop-row.row-index gained)
    ≡ id_by [] K c.loop-row.fresh ∷ handed (lost_by [] K) (next_by [] K c.loop-row.fresh)
    later = ap (handed K c.loop-row.fresh) e ∙ handed_next K c.loop-row.fresh row later in
    let t1 = subst (Come C live from ids to (handed K c.loop-row.fresh
    (drop c.loop-row.row-index gained)) gained) e w.come in
    let t2 = subst (λ hs. Come C live from ids to hs gained (row ∷ later)) h t1 in
    let f = c.free_in-free.ensures.before in
    let g = c.free_in-free.ensures.after in
    let next = come_next C live from ids gained to
    (handed (lost_by [] K) (next_by [] K c.loop-row.fresh) later) (id_by [] K c.loop-row.fresh)
    later row free c.requires.placed t2 c.free_in-free.ensures.within f g in
    let pushed : c.push.new.self.items ≡ to ++ (c.place_without.result, c.handed_id-id.result)
    ∷ [] = search rules in
    let wide : AllWidth (length c.args.columns.now) (row ∷ later) =
    subst (AllWidth (length c.args.columns.now)) e w.wide in
    record {
      come = rw (
        pushed,
        c.place_without.ensures,
        c.handed_id-id.ensures.id,
        c.handed_id-id.ensures.lost,
        c.handed_id-id.ensures.fresh,
      ) next;
      wide = wide.1;
      few = omega (arith, w.few, c.handed_id-id.ensures.few);
      count = first_of (search rules, grind (arith, common_steps));
    }

pub returns : goal.returns
returns c =
    let w = c.loop-row.invariant in
    let ids = handed c.args.lost.now c.args.next c.args.gained.now in
    let e : drop c.loop-row.row-index c.args.gained.now ≡ [] =
    drop_of_length-le c.args.gained.now (grind (arith, common_steps)) in
    let p = rw e at w.come in
    record {
      joined = come_all (cells_of c.args.columns.now) c.args.live.now.ids c.args.from.now ids
          c.args.gained.now c.loop-row.to.items p;
      placed = w.come.along;
      count = first_of (search rules, grind (arith, common_steps));
    }

pub loop-row-init : goal.loop-row-init
loop-row-init c =
    let none : c.in_ok-to.to.items ≡ [] = search rules in
    record {
      come = rw none (come_first (cells_of c.args.columns.now) c.args.live.now.ids c.args.from.now
          (handed c.args.lost.now c.args.next c.args.gained.now) c.args.gained.now
          c.requires.kept_rise c.requires.gained_rise
          (λ y i j. c.requires.fresh y i (left_there (cells_of c.args.columns.now) c.args.from.now
          c.args.live.now.ids y c.requires.placed j)));
      wide = c.requires.wide;
      few = omega arith;
      count = ap length none;
    }
