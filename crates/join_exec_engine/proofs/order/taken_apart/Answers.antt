use Rattle.std.proofs.Common.{[], ◌∷◌, ap, arith, length, length-append}
use Rattle.join_exec_engine.proofs.AtomOrder.{atoms_borrow, columns_more, rows_more}
use Rattle.join_exec_engine.proofs.order.taken_apart.Goals as goal
use Rattle.join_exec_levels.specs.Sources.{relations_of}

pub loop-atom-preserved : goal.loop-atom-preserved
loop-atom-preserved c = record {
  types = columns_more c.loop-atom.yielded c.in-Some.atom c.loop-atom.types.items
      c.put_apart.new.types.items c.loop-atom.invariant.types c.in_ok-put_apart.ensures.types;
  rows = λ m. rows_more m c.loop-atom.yielded c.in-Some.atom
      (relations_of c.loop-atom.sources.items m) (relations_of c.put_apart.new.sources.items m)
      (c.loop-atom.invariant.rows m) (c.in_ok-put_apart.ensures.rows m);
  widths = omega (
    arith,
    c.loop-atom.invariant.widths,
    c.in_ok-put_apart.ensures.widths,
    simp length-append at (ap length c.in_ok-put_apart.ensures.types),
  );
  borrowed = λ which h. (let p = atoms_borrow which c.loop-atom.yielded (c.in-Some.atom ∷ []) h in
      c.in_ok-put_apart.ensures.borrowed which (c.loop-atom.invariant.borrowed which p.0) p.1.0);
}
