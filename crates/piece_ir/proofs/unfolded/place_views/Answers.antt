use Rattle.std.proofs.Common.{rules, ◌≡◌, length, map}
use Rattle.cond_expr.specs.Seen.{test}
use Rattle.piece_ir.proofs.Placed.{next_place, atoms_placed, places_placed, parts_placed}
use Rattle.piece_ir.proofs.unfolded.place_views.Goals as goal

pub loop-view-preserved : goal.loop-view-preserved
loop-view-preserved c =
    let views = c.args.views.now in
    let i = c.loop-view.view-index in
    let v = c.view-item.result in
    let l = c.loop-view-test.true in
    let e = c.view-item.is in
    let names = c.deref-in-loop-view.result.now in
    let old = c.loop-view.atoms.items in
    let new = c.append_names.new.all.items in
    let place = c.len-place.result in
    let at : place ≡ length old = search rules in
    let on = next_place views i v l e old names new c.in_ok-append_names.ensures
    c.deref-in-loop-view.ensures.value in
    record {
      atoms = atoms_placed views i v l e old names new _ c.loop-view.invariant.atoms
          c.in_ok-append_names.ensures c.deref-in-loop-view.ensures.value;
      places = places_placed views i v l e place (length old) (length new) at on
          c.loop-view.places.items c.push.new.self.items _ c.loop-view.invariant.places
          c.in_ok-push.ensures.items;
      parts = parts_placed views i v l e place (length old) (length new) at on
          (map test c.loop-view.parts.items) (map test c.append_moved.new.parts.items) _
          c.deref.result.now c.loop-view.invariant.parts c.in_ok-append_moved.ensures
          c.deref.ensures.value;
    }
