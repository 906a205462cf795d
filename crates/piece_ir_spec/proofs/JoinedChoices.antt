-- What choices hold, joined end to end.
use Rattle.std.specs.Prelude.{◌≡◌, ℕ, zero, suc, ◌+◌, List, [], ◌∷◌, ◌++◌, true, map, length}
use Rattle.std.specs.Prelude.{is_some}
use Rattle.std.proofs.Common.{refl, ap, ◌∙◌, arith}
use Rattle.relations_spec.specs.Choices.{Chosen}
use Rattle.prima_base.specs.Columns.{Column}
use Rattle.cond_expr.specs.declared.expr.Whose.{Whose}
use Rattle.cond_expr.specs.declared.expr.Whose.TheVariants.{Atom}
use Rattle.cond_expr.specs.Trees.{Tree, Test, fill, fill_test}
use Rattle.cond_expr.specs.Values.{Cells, value, truth}
use Rattle.cond_expr.specs.Kinds.{kind_of, is_typed}
use Rattle.cond_expr.proofs.TreeLaws.{value_fill, truth_fill, value_like, truth_like}
use Rattle.smo_ops_spec.specs.OneRow.{Row}
use Rattle.cond_expr.specs.AtomColumns.{kinds_of_atoms}
use Rattle.plain_answers_spec.specs.Choosing.{chosen_cell, chosen_cells}
use Rattle.piece_ir_spec.specs.Unfolding.{moved_on}
use Rattle.piece_ir_spec.proofs.KnownKinds.{Known, known_within, test_known_within}
use Rattle.piece_ir_spec.proofs.AtomKinds.{atom_kind, known_atom}

-- from this place on the cells are those of the choice
pub record After (at : Cells) (off : ℕ) (columns : List (List Column)) (choice : List Row) :
    Type 0 where
  pub is : (k : ℕ) (n : List ℕ) → at (Atom (off + k)) n ≡ chosen_cell columns choice k n

prefix_cell : (columns more : List (List Column)) (c d : List Row) → length columns ≡ length c
    → (k : ℕ) (n : List ℕ)
    → is_some (atom_kind columns k n) ≡ true → chosen_cell (columns ++ more) (c ++ d) k n
    ≡ chosen_cell columns c k n
prefix_cell [] more c d e k n h = absurd (cc)
prefix_cell (x ∷ columns) more [] d e k n h = absurd (omega arith)
prefix_cell (x ∷ columns) more (r ∷ c) d e zero n h = refl
prefix_cell (x ∷ columns) more (r ∷ c) d e (suc k) n h =
    prefix_cell columns more c d (omega arith) k n h

back_cell : (columns more : List (List Column)) (c d : List Row) → length columns ≡ length c
    → (k : ℕ) (n : List ℕ)
    → chosen_cell (columns ++ more) (c ++ d) (length columns + k) n ≡ chosen_cell more d k n
back_cell [] more [] d e k n = let z : 0 + k ≡ k = omega arith in
    ap (λ (j : ℕ). chosen_cell more d j n) z
back_cell [] more (r ∷ c) d e k n = absurd (omega arith)
back_cell (x ∷ columns) more [] d e k n = absurd (omega arith)
back_cell (x ∷ columns) more (r ∷ c) d e k n =
    let z : length (x ∷ columns) + k ≡ suc (length columns + k) = omega arith in
    ap (λ (j : ℕ). chosen_cell ((x ∷ columns) ++ more) ((r ∷ c) ++ d) j n) z
    ∙ back_cell columns more c d (omega arith) k n

pub after_rest : (at : Cells) (off : ℕ) (columns more : List (List Column)) (c d : List Row)
    → length columns ≡ length c
    → After at off (columns ++ more) (c ++ d) → After at (off + length columns) more d
after_rest at off columns more c d e b = record {
  is = λ k n. (
      let z : (off + length columns) + k ≡ off + (length columns + k) = omega arith in
      ap (λ (j : ℕ). at (Atom j) n) z ∙ b.is (length columns + k) n
      ∙ back_cell columns more c d e k n
      );
}

-- what refers to the columns of the atoms in prefix
module _ (at : Cells) (off : ℕ) (columns more : List (List Column)) (c d : List Row)
    (e : length columns ≡ length c) (b : After at off (columns ++ more) (c ++ d)) where
  prefix_like : (w : Whose) (n : List ℕ) → Known (kinds_of_atoms columns) w n
      → value at (moved_on off w n) ≡ chosen_cells columns c w n
  prefix_like w n k =
      known_atom columns (λ v. value at (moved_on off v n) ≡ chosen_cells columns c v n) w n k
      (λ i h. b.is i n ∙ prefix_cell columns more c d e i n h)

  pub value_after : (t : Tree) → is_some (kind_of (kinds_of_atoms columns) t) ≡ true
      → value at (fill (moved_on off) t) ≡ value (chosen_cells columns c) t
  value_after t h =
      value_fill at (moved_on off) t
      ∙ value_like (Known (kinds_of_atoms columns)) (λ w n. value at (moved_on off w n))
      (chosen_cells columns c) prefix_like t (known_within (kinds_of_atoms columns) t h)

  pub truth_after : (t : Test) → is_typed (kinds_of_atoms columns) t ≡ true
      → truth at (fill_test (moved_on off) t) ≡ truth (chosen_cells columns c) t
  truth_after t h =
      truth_fill at (moved_on off) t
      ∙ truth_like (Known (kinds_of_atoms columns)) (λ w n. value at (moved_on off w n))
      (chosen_cells columns c) prefix_like t (test_known_within (kinds_of_atoms columns) t h)

-- choices from joined lists
pub chosen_both : {X : Type 0} (c d : List X) (xs ys : List (List X)) → Chosen c xs → Chosen d ys
    → Chosen (c ++ d) (xs ++ ys)
chosen_both [] d [] ys h k = k
chosen_both [] d (x ∷ xs) ys h k = absurd h
chosen_both (a ∷ c) d [] ys h k = absurd h
chosen_both (a ∷ c) d (x ∷ xs) ys h k = (h.0, chosen_both c d xs ys h.1 k)

pub chosen_split : {X : Type 0} (c : List X) (xs ys : List (List X)) → Chosen c (xs ++ ys)
    → (a : List X) × (b : List X) × (a ++ b ≡ c) × Chosen a xs × Chosen b ys
chosen_split c [] ys h = ([], c, refl, tt, h)
chosen_split [] (x ∷ xs) ys h = absurd h
chosen_split {X} (e ∷ c) (x ∷ xs) ys h =
    let s = chosen_split c xs ys h.1 in (
      e ∷ s.0,
      s.1,
      ap (λ (l : List X). e ∷ l) s.2,
      (h.0, s.3),
      s.4,
    )

pub chosen_long : {X : Type 0} (c : List X) (xs : List (List X)) → Chosen c xs
    → length xs ≡ length c
chosen_long [] [] h = refl
chosen_long [] (x ∷ xs) h = absurd h
chosen_long (a ∷ c) [] h = absurd h
chosen_long (a ∷ c) (x ∷ xs) h = let e = chosen_long c xs h.1 in omega arith

pub map_both : {X Y : Type 0} (f : X → Y) (xs ys : List X) → map f (xs ++ ys) ≡ map f xs ++ map f ys
map_both f [] ys = refl
map_both {X} {Y} f (x ∷ xs) ys = ap (λ (l : List Y). f x ∷ l) (map_both f xs ys)

pub length_map : {X Y : Type 0} (f : X → Y) (xs : List X) → length (map f xs) ≡ length xs
length_map f [] = refl
length_map f (x ∷ xs) = let e = length_map f xs in omega arith
