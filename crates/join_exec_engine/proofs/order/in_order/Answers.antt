use Rattle.std.proofs.Common.{◌≡◌, ◌++◌, [], List, sym, ap, ◌∙◌, subst, arith, length, ◌<◌}
use Rattle.std.proofs.lemmas.List.{append-nil}
use Rattle.std.proofs.lemmas.Bool.Decides.{nat_tests}
use Rattle.join_exec_engine.specs.declared.atom.Atom.{Atom}
use Rattle.join_exec_spec.specs.Blocks.{answered}
use Rattle.join_exec_levels.proofs.LevelLaws.{nothing_left}
use Rattle.join_exec_engine.proofs.AtomOrder.{one_borrows, one_moved, numbered_left}
use Rattle.join_exec_engine.proofs.order.in_order.Goals as goal
use Rattle.join_exec_engine.specs.Atoms.{blocks_of}

pub atoms-preserved : goal.atoms-preserved
atoms-preserved c =
    let l : c.next_of-i.result < length c.atoms.left.items =
    subst (λ (xs : List Atom). c.next_of-i.result < length xs) c.deref-in-atoms.ensures.value
    c.next_of-i.ensures in
    record {
      numbered = numbered_left c.atoms.left.items c.remove-atom.new.self.items c.next_of-i.result
          c.remove-atom.result l c.remove-atom.ensures.value c.remove-atom.ensures.items
          c.atoms.invariant.numbered;
      same = λ outs cond m.
          one_moved c.atoms.done.items c.atoms.left.items c.push.new.self.items
          c.remove-atom.new.self.items c.next_of-i.result c.remove-atom.result l
          c.remove-atom.ensures.value c.atoms.invariant.numbered c.in_ok-push.ensures.items
          c.remove-atom.ensures.items outs cond m
          ∙ c.atoms.invariant.same outs cond m;
      borrowed = λ which h. one_borrows which c.atoms.done.items c.atoms.left.items
          c.push.new.self.items
          c.remove-atom.new.self.items c.next_of-i.result c.remove-atom.result l
          c.remove-atom.ensures.value c.in_ok-push.ensures.items c.remove-atom.ensures.items
          (c.atoms.invariant.borrowed which h);
    }

pub returns-clause-borrowed : goal.returns-clause-borrowed
returns-clause-borrowed c = λ which h. (c.atoms.invariant.borrowed which h).0

pub returns-clause-same : goal.returns-clause-same
returns-clause-same c = λ outs cond m.
    let u = c.atoms-test.ensures in
    let n : length c.atoms.left.items ≡ 0 = grind (arith, nat_tests, c.atoms.left.ok) in
    let z : c.atoms.left.items ≡ [] = nothing_left c.atoms.left.items n in
    ap (answered outs cond) (sym (append-nil (blocks_of m c.atoms.done.items))
    ∙ ap (λ (xs : List Atom). blocks_of m c.atoms.done.items ++ blocks_of m xs) (sym z))
    ∙ c.atoms.invariant.same outs cond m
