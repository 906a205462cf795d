use Rattle.std.proofs.Common.{[], ◌∷◌, subst}
use Rattle.join_exec_engine.specs.Atoms.{AtomsBorrow}
use Rattle.join_exec_engine.proofs.AtomOrder.{atoms_borrow}
use Rattle.join_exec_engine.proofs.engine.answer_atoms.Goals as goal

pub returns-clause-borrowed : goal.returns-clause-borrowed
returns-clause-borrowed c = λ which h. c.answer_atom.ensures.borrowed which
    (atoms_borrow which c.pop.new.self.items (c.in-Some.atom ∷ [])
    (subst (AtomsBorrow which) c.in-Some.ensures.items h)).1.0
