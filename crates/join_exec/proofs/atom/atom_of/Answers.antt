use Rattle.std.proofs.Common.{List, ℕ, refl, sym, subst}
use Rattle.join_exec.specs.Reading.{AreNames}
use Rattle.join_exec.proofs.ReadRows.{made_columns, made_own, made_fit, made_rows}
use Rattle.join_exec.proofs.atom.atom_of.Goals as goal

pub gather-requires : goal.gather-requires
gather-requires g c = subst (λ (ns : List (List ℕ)). AreNames c.args.table.now.columns ns)
    (sym c.deref.ensures.value) c.requires.known

pub invariant_of-result : goal.invariant_of-result
invariant_of-result g c = record {
  own = made_own c.args.table.now c.args.slice c.args.number c.args.names.items c.deref.result.now
      c.deref-2.result.now c.in_ok-rows.rows.items c.columns.result.now c.in_ok-read.read.items
      c.deref-3.result.now c.in_ok-columns.columns.items c.deref.ensures.value
      c.in_ok-rows.ensures.gathered c.deref-2.ensures.value c.columns.ensures
      c.in_ok-read.ensures c.deref-3.ensures.value c.in_ok-columns.ensures;
  fit = made_fit c.args.table.now c.args.slice c.args.number c.args.names.items c.deref.result.now
      c.deref-2.result.now c.in_ok-rows.rows.items c.columns.result.now c.in_ok-read.read.items
      c.deref-3.result.now c.in_ok-columns.columns.items c.deref.ensures.value
      c.in_ok-rows.ensures.gathered c.deref-2.ensures.value c.columns.ensures
      c.in_ok-read.ensures c.deref-3.ensures.value c.in_ok-columns.ensures c.gather.ensures.valid
      c.requires.known c.requires.ascending;
}

pub returns-clause-atom : goal.returns-clause-atom
returns-clause-atom g c = record {
  stored = c.gather.ensures.valid;
  number = refl;
  columns = made_columns c.args.table.now c.args.slice c.args.number c.args.names.items
      c.deref.result.now
      c.deref-2.result.now c.in_ok-rows.rows.items c.columns.result.now c.in_ok-read.read.items
      c.deref-3.result.now c.in_ok-columns.columns.items c.deref.ensures.value
      c.in_ok-rows.ensures.gathered c.deref-2.ensures.value c.columns.ensures
      c.in_ok-read.ensures c.deref-3.ensures.value c.in_ok-columns.ensures;
  borrowed = c.in_ok-rows.ensures.borrowed;
  rows = made_rows c.args.table.now c.args.slice c.args.number c.args.names.items c.deref.result.now
      c.deref-2.result.now c.in_ok-rows.rows.items c.columns.result.now c.in_ok-read.read.items
      c.deref-3.result.now c.in_ok-columns.columns.items c.deref.ensures.value
      c.in_ok-rows.ensures.gathered c.deref-2.ensures.value c.columns.ensures
      c.in_ok-read.ensures c.deref-3.ensures.value c.in_ok-columns.ensures;
}
