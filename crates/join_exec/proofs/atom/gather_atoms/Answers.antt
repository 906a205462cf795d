use Rattle.std.proofs.Common.{◌+◌, ◌<◌, arith, sym, subst}
use Rattle.std.specs.Prelude.{◌^◌}
use Rattle.relations_spec.specs.Sets.{Ascends}
use Rattle.prima_base.specs.Order.{bytes_cmp}
use Rattle.cond_expr.specs.References.{borrowed}
use Rattle.join_exec.proofs.AtomAnswers.{ascending}
use Rattle.join_exec.proofs.AtomSteps.{one_more, next_ready, next_count, next_read, here_ready}
use Rattle.join_exec.proofs.AtomSteps.{here_read, here_count}
use Rattle.join_exec.proofs.atom.gather_atoms.Goals as goal

pub read_atom-requires-clause-ascending : goal.read_atom-requires-clause-ascending
read_atom-requires-clause-ascending g c =
    subst (Ascends bytes_cmp) (sym c.in_ok-names.ensures)
    (ascending c.args.groups.now c.args.version c.args.slice (borrowed c.args.references.now)
    c.loop-name.number)

pub read_atom-requires-clause-readable : goal.read_atom-requires-clause-readable
read_atom-requires-clause-readable g c =
    let rs = borrowed c.args.references.now in
    here_ready c.args.groups.now c.args.version rs c.loop-name.name-index c.loop-name.number
    c.name-item.result _ c.in_ok-names.names.items c.loop-name.invariant.number
    c.table-table.ensures.stored c.in_ok-names.ensures
    (next_ready c.args.groups.now c.args.version rs c.args.tables.now c.loop-name.name-index
    c.name-item.result c.loop-name-test.true c.name-item.is c.loop-name.invariant.ready).0

pub loop-name-preserved : goal.loop-name-preserved
loop-name-preserved g c =
    let rs = borrowed c.args.references.now in
    let own = here_count c.args.groups.now c.args.version rs c.loop-name.name-index
    c.loop-name.number c.name-item.result _ c.in_ok-names.names.items
    c.loop-name.invariant.number c.table-table.ensures.stored c.in_ok-names.ensures in
    let more = next_count c.args.groups.now c.args.version rs c.args.tables.now
    c.loop-name.name-index c.name-item.result c.loop-name-test.true c.name-item.is in
    let next = one_more c.checked_add.result c.ok_or.result (c.loop-name.number + 1 < 2 ^ 32)
    (c.loop-name.number + 1) c.in_ok-number.number c.checked_add.ensures c.ok_or.ensures.ok_part
    c.in_ok-number.was in
    record {
      number = omega (arith, c.loop-name.invariant.number, next);
      ready = (next_ready c.args.groups.now c.args.version rs c.args.tables.now
          c.loop-name.name-index c.name-item.result c.loop-name-test.true c.name-item.is
          c.loop-name.invariant.ready).1;
      read = next_read c.args.groups.now c.args.version rs c.args.slice c.args.tables.now
          c.loop-name.name-index c.name-item.result c.loop-name.atoms.items c.push.new.self.items
          c.in_ok-atom.atom c.loop-name-test.true c.name-item.is c.loop-name.invariant.read
          (here_read c.args.groups.now c.args.version rs c.loop-name.name-index c.loop-name.number
          c.name-item.result _ c.in_ok-names.names.items c.loop-name.invariant.number
          c.table-table.ensures.stored c.in_ok-names.ensures c.args.slice c.in_ok-atom.atom
          c.in_ok-atom.ensures.atom)
          c.in_ok-push.ensures.items;
      count = omega (arith, c.in_ok-atom.ensures.counted, c.loop-name.invariant.count, own, more);
      rises = omega (arith, c.read_atom.ensures.rises, c.loop-name.invariant.rises);
    }
