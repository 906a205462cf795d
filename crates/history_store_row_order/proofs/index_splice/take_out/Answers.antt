use Rattle.std.proofs.Common.{rules, ◌≡◌, ◌+◌, ◌++◌, [], ◌∷◌, length, get_or, take, drop, arith}
use Rattle.std.proofs.Common.{subst, inl, refl}
use Rattle.std.proofs.lemmas.Grind.{common_steps}
use Rattle.std.proofs.Math.ListN.{drop_of_length-le}
use Rattle.relations_spec.proofs.SetLaws.{in_right}
use Rattle.history_store_row_order.specs.Logs.{cells_of}
use Rattle.history_store_row_order.specs.Rows.{AllWidth}
use Rattle.history_store_row_order.proofs.SideBySide.{taken}
use Rattle.history_store_row_order.proofs.Splicing.{IsTaken, rise_back, parted, taken_next}
use Rattle.history_store_row_order.proofs.Splicing.{taken_all}
use Rattle.history_store_row_order.proofs.index_splice.take_out.Goals as goal

pub found_place-at-requires-clause-known : goal.found_place-at-requires-clause-known
found_place-at-requires-clause-known c = λ id i k d b.
    c.requires.known id (c.loop-row.invariant.taken.kept_in id
    (in_right id c.loop-row.kept.items c.loop-row.rest.now i)) k d b

pub found_place-at-requires-clause-rise : goal.found_place-at-requires-clause-rise
found_place-at-requires-clause-rise c = rise_back (cells_of c.args.columns.now)
    c.loop-row.kept.items c.loop-row.rest.now c.loop-row.invariant.taken.rises

pub found_place-at-requires-clause-there : goal.found_place-at-requires-clause-there
found_place-at-requires-clause-there c =
    let e = taken c.args.lost.now c.loop-row.row-index c.row-item.result c.loop-row-test.true
    c.row-item.is in
    c.loop-row.invariant.taken.there c.row-item.result (rw e (inl refl))

pub loop-row-preserved : goal.loop-row-preserved
loop-row-preserved c =
    let w = c.loop-row.invariant in
    let C = cells_of c.args.columns.now in
    let rest = c.loop-row.rest.now in
    let at = c.found_place-at.result in
    let row = c.row-item.result in
    let later = drop (c.loop-row.row-index + 1) c.args.lost.now in
    let e : drop c.loop-row.row-index c.args.lost.now ≡ row ∷ later =
    taken c.args.lost.now c.loop-row.row-index row c.loop-row-test.true c.row-item.is in
    let p = parted rest at c.found_place-at.ensures.within in
    let t : IsTaken C c.args.live.now c.loop-row.found.items c.loop-row.kept.items
    (take at rest ++ get_or rest at 0 ∷ drop (at + 1) rest) c.args.lost.now (row ∷ later) =
    subst (λ r. IsTaken C c.args.live.now c.loop-row.found.items c.loop-row.kept.items r
    c.args.lost.now (row ∷ later)) p (subst
    (IsTaken C c.args.live.now c.loop-row.found.items c.loop-row.kept.items rest
    c.args.lost.now) e w.taken) in
    let next = taken_next C c.args.live.now c.loop-row.found.items c.loop-row.kept.items
    (take at rest) (drop (at + 1) rest) (get_or rest at 0) c.args.lost.now later row t
    c.found_place-at.ensures.row in
    let found : c.push.new.self.items ≡ c.loop-row.found.items ++ get_or rest at 0 ∷ [] =
    search rules in
    let kept : c.extend_from_slice.new.self.items ≡ c.loop-row.kept.items ++ take at rest =
    search rules in
    let wide : AllWidth (length c.args.columns.now) (row ∷ later) =
    subst (AllWidth (length c.args.columns.now)) e w.wide in
    record {
      taken = rw (found, kept, c.split_at-in-loop-row.ensures.back) next;
      wide = wide.1;
    }

pub returns : goal.returns
returns c =
    let w = c.loop-row.invariant in
    let C = cells_of c.args.columns.now in
    let e : drop c.loop-row.row-index c.args.lost.now ≡ [] =
    drop_of_length-le c.args.lost.now (grind (arith, common_steps)) in
    let kept : c.extend_from_slice-2.new.self.items ≡ c.loop-row.kept.items ++ c.loop-row.rest.now =
    search rules in
    rw kept (taken_all C c.args.live.now c.loop-row.found.items c.loop-row.kept.items
    c.loop-row.rest.now c.args.lost.now (subst
    (IsTaken C c.args.live.now c.loop-row.found.items c.loop-row.kept.items c.loop-row.rest.now
    c.args.lost.now) e w.taken))
