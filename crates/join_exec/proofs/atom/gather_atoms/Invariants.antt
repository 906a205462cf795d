use Rattle.std.proofs.Common.{◌≡◌, ◌≤◌, ◌+◌, take, drop}
use Rattle.cond_expr.specs.References.{borrowed}
use Rattle.join_exec.specs.Pieces.{atoms_read}
use Rattle.join_exec.specs.Atoms.{AreRead, AreReadable}
use Rattle.join_exec.proofs.atom.gather_atoms.Given as goal

abbrev pub invariant-loop-name : goal.invariant-loop-name
invariant-loop-name g l = record {
  number : l.number ≡ l.name-index;
  ready : AreReadable l.groups l.version (borrowed l.references) l.name-index
      (drop l.name-index l.tables);
  read : AreRead l.groups l.version l.fn.slice (borrowed l.references) 0
      (take l.name-index l.tables) l.atoms.items;
  count : l.steps + atoms_read l.groups l.version (borrowed l.references) l.name-index
      (drop l.name-index l.tables) ≡ l.initial.steps + atoms_read l.groups l.version
      (borrowed l.references) 0 l.tables;
  rises : l.initial.steps ≤ l.steps;
}
