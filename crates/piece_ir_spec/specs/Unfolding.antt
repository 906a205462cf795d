-- A piece over made tables, unfolded: as pieces over the tables that these are made of.
use Rattle.std.specs.Prelude.{ℕ, zero, suc, ◌+◌, List, [], ◌∷◌, ◌++◌, map, length}
use Rattle.std.specs.List.{flat_map}
use Rattle.relations_spec.specs.Choices.{choices}
use Rattle.cond_expr.specs.declared.expr.Whose.TheVariants.{Atom}
use Rattle.cond_expr.specs.Trees.{Tree, column, Test, all_of, Filling, for_atoms, fill, fill_test}
use Rattle.cond_expr.specs.Seen.{tests_of}
use Rattle.cond_expr.specs.Parts.{parts_but_true}
use Rattle.piece_ir_spec.specs.Pieces.{PlainPiece}
use Rattle.piece_ir_spec.specs.Views.{PlainView, out_of, Views, views_of}

-- each reference is to the atom so many places on
abbrev pub moved_on : ℕ → Filling
moved_on off = for_atoms (λ i n. column (Atom (off + i)) n)

-- what stands for a column of an atom, where each atom has one of these views, and the atoms of the
-- first one begin at this place
abbrev pub put_from : ℕ → List PlainView → ℕ → List ℕ → Tree
put_from off [] i n = column (Atom i) n
put_from off (v ∷ views) zero n = fill (moved_on off) (out_of v.outs n)
put_from off (v ∷ views) (suc i) n = put_from (off + length v.atoms) views i n

abbrev pub put_for : List PlainView → Filling
put_for views = for_atoms (put_from 0 views)

-- the parts of the views
abbrev pub parts_from : ℕ → List PlainView → List Test
parts_from off [] = []
parts_from off (v ∷ views) = map (fill_test (moved_on off)) v.parts
    ++ parts_from (off + length v.atoms) views

-- the parts of a condition, and then these, in one AND; where there are none of these, the
-- condition
abbrev pub with_parts : Test → List Test → Test
with_parts c [] = c
with_parts c (d ∷ more) = all_of (tests_of (parts_but_true c ++ d ∷ more))

abbrev pub filled_out : Filling → List ℕ × Tree → List ℕ × Tree
filled_out s o = (o.0, fill s o.1)

abbrev pub filled_outs : Filling → List (List ℕ × Tree) → List (List ℕ × Tree)
filled_outs s outs = map (filled_out s) outs

abbrev pub atoms_of : List PlainView → List (List ℕ)
atoms_of views = flat_map (λ (v : PlainView). v.atoms) views

-- the piece with one view in place of each atom
abbrev pub unfolded : PlainPiece → List PlainView → PlainPiece
unfolded p views = record {
  atoms = atoms_of views;
  cond = with_parts (fill_test (put_for views) p.cond) (parts_from 0 views);
  outs = filled_outs (put_for views) p.outs;
}

-- for each way to put one of its table's views in place of each atom, the piece
abbrev pub unfoldings : Views → PlainPiece → List PlainPiece
unfoldings views p = map (unfolded p) (choices (map (views_of views) p.atoms))
