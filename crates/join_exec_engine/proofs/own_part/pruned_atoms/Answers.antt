use Rattle.std.proofs.Common.{◌≡◌, ◌++◌, ◌∷◌, [], List, length, append_assoc, sym, ap, ◌∙◌, subst}
use Rattle.std.proofs.Common.{arith}
use Rattle.std.specs.Vec.Iter.{into_iter_items}
use Rattle.std.proofs.lemmas.List.{append-nil}
use Rattle.cond_expr.specs.Trees.{Test}
use Rattle.join_exec_spec.specs.Blocks.{IsPruned}
use Rattle.join_exec_engine.specs.declared.atom.Atom.{Atom}
use Rattle.join_exec_engine.specs.Atoms.{AtomsBorrow, block_of}
use Rattle.join_exec_levels.proofs.LevelLaws.{nothing_left}
use Rattle.join_exec_engine.proofs.PrunedRows.{numbered_more, borrows_more, same_more, numbered_all}
use Rattle.join_exec_engine.proofs.PrunedRows.{same_all}
use Rattle.join_exec_engine.proofs.own_part.pruned_atoms.Goals as goal

pub loop-atom-preserved : goal.loop-atom-preserved
loop-atom-preserved c =
    let at = c.loop-atom in
    let a = c.in-Some.atom in
    let d = c.in_ok-pruned.field-0 in
    let steps : into_iter_items at.atom-iterator ≡ a ∷ into_iter_items c.next.new.self =
    c.in-Some.ensures.steps.0 in
    record {
      whole = append_assoc at.yielded (a ∷ []) _
          ∙ ap (λ (xs : List Atom). at.yielded ++ xs) (sym steps) ∙ at.invariant.whole;
      count = (let was = at.invariant.count in let gone = c.in-Some.ensures.steps.1 in let short =
          ap length steps in omega arith);
      numbered = numbered_more at.yielded at.done.items c.push.new.self.items a d
          c.in_ok-push.ensures.items at.invariant.numbered (c.in_ok-pruned.ensures.pruned 0).number;
      borrowed = λ which. borrows_more at.yielded at.done.items c.push.new.self.items a d
          c.in_ok-push.ensures.items at.invariant.numbered which (at.invariant.borrowed which)
          (c.in_ok-pruned.ensures.borrowed which);
      same = λ outs cond e m rest h. same_more at.yielded at.done.items c.push.new.self.items a d
          c.in_ok-push.ensures.items at.invariant.numbered outs cond m
          (subst (λ (ps : List Test). IsPruned ps (block_of m a) (block_of m d)) e
          (c.in_ok-pruned.ensures.pruned m)) (at.invariant.same outs cond e m) rest h;
    }

pub returns-clause-numbered : goal.returns-clause-numbered
returns-clause-numbered c =
    let at = c.loop-atom in
    let empty : into_iter_items at.atom-iterator ≡ [] =
    nothing_left _ (sym at.invariant.count ∙ c.in-None.ensures.steps.0) in
    let all : at.yielded ≡ c.args.atoms.items = sym (append-nil at.yielded)
    ∙ ap (λ (xs : List Atom). at.yielded ++ xs) (sym empty) ∙ at.invariant.whole in
    numbered_all c.args.atoms.items at.yielded at.done.items all c.requires at.invariant.numbered

pub returns-clause-borrowed : goal.returns-clause-borrowed
returns-clause-borrowed c = λ which h.
    let at = c.loop-atom in
    let empty : into_iter_items at.atom-iterator ≡ [] =
    nothing_left _ (sym at.invariant.count ∙ c.in-None.ensures.steps.0) in
    let all : at.yielded ≡ c.args.atoms.items = sym (append-nil at.yielded)
    ∙ ap (λ (xs : List Atom). at.yielded ++ xs) (sym empty) ∙ at.invariant.whole in
    at.invariant.borrowed which (subst (AtomsBorrow which) (sym all) h)

pub returns-clause-same : goal.returns-clause-same
returns-clause-same c = λ outs cond e m.
    let at = c.loop-atom in
    let empty : into_iter_items at.atom-iterator ≡ [] =
    nothing_left _ (sym at.invariant.count ∙ c.in-None.ensures.steps.0) in
    let all : at.yielded ≡ c.args.atoms.items = sym (append-nil at.yielded)
    ∙ ap (λ (xs : List Atom). at.yielded ++ xs) (sym empty) ∙ at.invariant.whole in
    same_all c.args.atoms.items at.yielded at.done.items all c.requires outs cond m
    (at.invariant.same outs cond e m)
