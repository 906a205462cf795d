-- A piece unfolded by views of valid constants has valid constants.
use Rattle.std.specs.Prelude.{ℕ, zero, suc, ◌+◌, List, [], ◌∷◌, ◌++◌, Bool, true, false, map}
use Rattle.std.specs.Prelude.{length, if◌then◌else◌}
use Rattle.std.proofs.Common.{refl, subst, inl, inr}
use Rattle.relations_spec.specs.Sets.{In}
use Rattle.relations_spec.specs.Choices.{Chosen}
use Rattle.relations_spec.proofs.SetLaws.{from_map, in_append}
use Rattle.cond_expr.specs.declared.expr.Whose.{Whose}
use Rattle.cond_expr.specs.declared.expr.Whose.TheVariants.{Free, Alias, Atom}
use Rattle.cond_expr.specs.Trees.{Tree, column, constant, length_of, joined, choose, Trees}
use Rattle.cond_expr.specs.Trees.{no_trees, a_tree, Test, never, always, compared, all_of, some_of}
use Rattle.cond_expr.specs.Trees.{fails, Tests, no_tests, a_test, Filling, for_atoms, fill}
use Rattle.cond_expr.specs.Trees.{fill_trees, fill_test, fill_tests}
use Rattle.cond_expr.specs.Seen.{tests_of}
use Rattle.cond_expr.specs.Parts.{parts_with, all_parts_with, parts_but_true}
use Rattle.smo_ops_spec.specs.OneRow.{same}
use Rattle.piece_ir_spec.specs.Pieces.{PlainPiece}
use Rattle.piece_ir_spec.specs.Views.{PlainView, out_of}
use Rattle.piece_ir_spec.specs.Unfolding.{moved_on, put_from, put_for, parts_from, with_parts}
use Rattle.piece_ir_spec.specs.Unfolding.{filled_out, unfolded}
use Rattle.piece_ir_spec.specs.Constants.{ValidInTree, ValidInTrees, ValidInTest, ValidInTests}
use Rattle.piece_ir_spec.specs.Constants.{ValidInOuts, ValidInView, ValidInPiece}

-- ---- filled trees

module _ (s : Filling) (valid : (w : Whose) (n : List ℕ) → ValidInTree (s w n)) where
  mutual
    pub fill_valid : (t : Tree) → ValidInTree t → ValidInTree (fill s t)
    fill_valid (column w n) h = valid w n
    fill_valid (constant v) h = h
    fill_valid (length_of t) h = fill_valid t h
    fill_valid (joined ts) h = fill_trees_valid ts h
    fill_valid (choose c a b) h = (fill_test_valid c h.0, fill_valid a h.1, fill_valid b h.2)

    fill_trees_valid : (ts : Trees) → ValidInTrees ts → ValidInTrees (fill_trees s ts)
    fill_trees_valid no_trees h = tt
    fill_trees_valid (a_tree t ts) h = (fill_valid t h.0, fill_trees_valid ts h.1)

    pub fill_test_valid : (c : Test) → ValidInTest c → ValidInTest (fill_test s c)
    fill_test_valid never h = tt
    fill_test_valid always h = tt
    fill_test_valid (compared o a b) h = (fill_valid a h.0, fill_valid b h.1)
    fill_test_valid (all_of cs) h = fill_tests_valid cs h
    fill_test_valid (some_of cs) h = fill_tests_valid cs h
    fill_test_valid (fails c) h = fill_test_valid c h

    fill_tests_valid : (cs : Tests) → ValidInTests cs → ValidInTests (fill_tests s cs)
    fill_tests_valid no_tests h = tt
    fill_tests_valid (a_test c cs) h = (fill_test_valid c h.0, fill_tests_valid cs h.1)

pub for_atoms_valid : (s : ℕ → List ℕ → Tree) → ((i : ℕ) (n : List ℕ) → ValidInTree (s i n))
    → (w : Whose) (n : List ℕ) → ValidInTree (for_atoms s w n)
for_atoms_valid s h Free n = tt
for_atoms_valid s h (Alias a) n = tt
for_atoms_valid s h (Atom i) n = h i n

moved_valid : (off : ℕ) (w : Whose) (n : List ℕ) → ValidInTree (moved_on off w n)
moved_valid off = for_atoms_valid (λ i n. column (Atom (off + i)) n) (λ i n. tt)

-- ---- the parts of a condition, and parts put to it

module _ (of_true : List Test) (true_valid : (t : Test) → In t of_true → ValidInTest t) where
  mutual
    pub part_valid : (c t : Test) → ValidInTest c → In t (parts_with of_true c) → ValidInTest t
    part_valid never t h (inl e) = subst ValidInTest e h
    part_valid never t h (inr m) = absurd m
    part_valid always t h m = true_valid t m
    part_valid (compared o a b) t h (inl e) = subst ValidInTest e h
    part_valid (compared o a b) t h (inr m) = absurd m
    part_valid (all_of cs) t h m = parts_valid cs t h m
    part_valid (some_of cs) t h (inl e) = subst ValidInTest e h
    part_valid (some_of cs) t h (inr m) = absurd m
    part_valid (fails c) t h (inl e) = subst ValidInTest e h
    part_valid (fails c) t h (inr m) = absurd m

    parts_valid : (cs : Tests) (t : Test) → ValidInTests cs → In t (all_parts_with of_true cs)
        → ValidInTest t
    parts_valid no_tests t h m = absurd m
    parts_valid (a_test c cs) t h m =
        elim (in_append t (parts_with of_true c) (all_parts_with of_true cs) m) [
          | inl i ↦ part_valid c t h.0 i
          | inr i ↦ parts_valid cs t h.1 i
        ]

pub some_part_valid : (c t : Test) → ValidInTest c → In t (parts_but_true c) → ValidInTest t
some_part_valid = part_valid [] (λ t m. absurd m)

pub tests_valid : (cs : List Test) → ((c : Test) → In c cs → ValidInTest c)
    → ValidInTests (tests_of cs)
tests_valid [] h = tt
tests_valid (c ∷ cs) h = (h c (inl refl), tests_valid cs (λ d m. h d (inr m)))

with_parts_valid : (c : Test) (ds : List Test) → ValidInTest c
    → ((d : Test) → In d ds → ValidInTest d) → ValidInTest (with_parts c ds)
with_parts_valid c [] h k = h
with_parts_valid c (d ∷ ds) h k =
    tests_valid (parts_but_true c ++ d ∷ ds)
    (λ t m. elim (in_append t (parts_but_true c) (d ∷ ds) m) [
      | inl i ↦ some_part_valid c t h i
      | inr i ↦ k t i
    ])

-- ---- unfolded pieces

abbrev pub AllValid : List PlainView → Type 0
AllValid views = (v : PlainView) → In v views → ValidInView v

pub out_valid : (outs : List (List ℕ × Tree)) (n : List ℕ) → ValidInOuts outs
    → ValidInTree (out_of outs n)
out_valid [] n h = tt
out_valid (o ∷ outs) n h = step (same o.0 n) (h o (inl refl))
    (out_valid outs n (λ x m. h x (inr m)))
  where
    step : (b : Bool) → ValidInTree o.1 → ValidInTree (out_of outs n)
        → ValidInTree (if b then o.1 else out_of outs n)
    step true x y = x
    step false x y = y

put_valid : (off : ℕ) (views : List PlainView) → AllValid views → (i : ℕ) (n : List ℕ)
    → ValidInTree (put_from off views i n)
put_valid off [] h i n = tt
put_valid off (v ∷ views) h zero n = fill_valid (moved_on off) (moved_valid off) (out_of v.outs n)
    (out_valid v.outs n (h v (inl refl)).outs)
put_valid off (v ∷ views) h (suc i) n = put_valid (off + length v.atoms) views (λ x m. h x (inr m))
    i n

view_parts_valid : (off : ℕ) (views : List PlainView) → AllValid views → (c : Test)
    → In c (parts_from off views) → ValidInTest c
view_parts_valid off [] h c m = absurd m
view_parts_valid off (v ∷ views) h c m =
    elim (in_append c (map (fill_test (moved_on off)) v.parts)
    (parts_from (off + length v.atoms) views) m) [
      | inl i ↦ (
          let f = from_map (fill_test (moved_on off)) c v.parts i in
          subst ValidInTest f.2 (fill_test_valid (moved_on off) (moved_valid off) f.0
          ((h v (inl refl)).parts f.0 f.1))
          )
      | inr i ↦ view_parts_valid (off + length v.atoms) views (λ x k. h x (inr k)) c i
    ]

pub unfolded_valid : (p : PlainPiece) (sel : List PlainView) → ValidInPiece p → AllValid sel
    → ValidInPiece (unfolded p sel)
unfolded_valid p sel h k = record {
  cond = with_parts_valid (fill_test (put_for sel) p.cond) (parts_from 0 sel)
      (fill_test_valid (put_for sel) put p.cond h.cond) (view_parts_valid 0 sel k);
  outs = λ o m. (
      let f = from_map (filled_out (put_for sel)) o p.outs m in
      subst (λ (x : List ℕ × Tree). ValidInTree x.1) f.2
      (fill_valid (put_for sel) put f.0.1 (h.outs f.0 f.1))
      );
}
  where
    put : (w : Whose) (n : List ℕ) → ValidInTree (put_for sel w n)
    put = for_atoms_valid (put_from 0 sel) (put_valid 0 sel k)

-- of each atom's table one view
pub chosen_valid : (vs : List ℕ → List PlainView)
    → ((a : List ℕ) (v : PlainView) → In v (vs a) → ValidInView v)
    → (atoms : List (List ℕ)) (sel : List PlainView)
    → Chosen sel (map vs atoms) → AllValid sel
chosen_valid vs h [] [] c v m = absurd m
chosen_valid vs h [] (w ∷ sel) c v m = absurd c
chosen_valid vs h (a ∷ atoms) [] c v m = absurd c
chosen_valid vs h (a ∷ atoms) (w ∷ sel) c v (inl e) = subst ValidInView e (h a w c.0)
chosen_valid vs h (a ∷ atoms) (w ∷ sel) c v (inr m) = chosen_valid vs h atoms sel c.1 v m
