-- What a reference to an atom's column stands for in a choice, and in its rows one after the other.
use Rattle.std.proofs.Common.{◌≡◌, ◌<◌, ◌+◌, ℕ, zero, suc, Bool, true, false, cond, List, [], ◌∷◌}
use Rattle.std.proofs.Common.{◌++◌, map, length, refl, sym, ap, ◌∙◌, subst, inl, inr, arith}
use Rattle.std.specs.Prelude.{◌&&◌, ◌==◌, pos}
use Rattle.std.specs.List.{filter}
use Rattle.std.specs.Ordering.{is_eq, ordering_reverse}
use Rattle.std.specs.declared.cmp.Ordering.{Ordering}
use Rattle.std.specs.declared.cmp.Ordering.TheVariants.{Less, Equal, Greater}
use Rattle.std.specs.Cmp.Lexicographic.{nat_list_cmp_total}
use Rattle.std.proofs.Math.Path.{fun_ext}
use Rattle.std.proofs.lemmas.Bool.Decides.{nat_tests}
use Rattle.relations_spec.specs.Sets.{In}
use Rattle.relations_spec.specs.Choices.{choices}
use Rattle.relations_spec.proofs.Held.{in_at}
use Rattle.relations_spec.proofs.SetLaws.{from_map, from_flat_map}
use Rattle.prima_base.specs.declared.value.Value.{Value}
use Rattle.prima_base.specs.declared.value.Value.TheVariants.{Int}
use Rattle.prima_base.specs.Order.{bytes_cmp, row_cmp}
use Rattle.prima_base.specs.OrderLaws.{row_exact}
use Rattle.prima_base.specs.Columns.{Column}
use Rattle.prima_base.specs.Timed.{entries_of, rows_at}
use Rattle.schema_catalog.specs.Databases.{cell}
use Rattle.cond_expr.specs.declared.expr.Whose.{Whose}
use Rattle.cond_expr.specs.declared.expr.Whose.TheVariants.{Free, Alias, Atom}
use Rattle.cond_expr.specs.declared.expr.Column.{Column as AtomColumn}
use Rattle.cond_expr.specs.Values.{Cells, value, truth}
use Rattle.cond_expr.specs.Rows.{same, cells}
use Rattle.cond_expr.specs.AtomColumns.{columns_at}
use Rattle.cond_expr.specs.Trees.{Tree, Test}
use Rattle.plain_answers_spec.specs.Choosing.{chosen_cell, chosen_cells, choice_meets, answered}
use Rattle.plain_answers_spec.specs.Choosing.{answers_over}
use Rattle.std.proofs.lemmas.List.{length-map}
use Rattle.join_exec_engine.specs.declared.atom.Atom.{Atom as OneAtom}
use Rattle.join_exec_spec.specs.Keeping.{meets}
use Rattle.join_exec_spec.specs.Answering.{outputs, one_row}
use Rattle.join_exec_spec.specs.Blocks.{types_of, rows_of, answered_rows}
use Rattle.join_exec_engine.specs.Atoms.{HaveAtoms}
use Rattle.cond_expr.specs.AtomColumns.{atoms_from}
use Rattle.join_exec_engine.specs.Atoms.{blocks_of}

turned : (o : Ordering) → is_eq (ordering_reverse o) ≡ is_eq o
turned Less = refl
turned Equal = refl
turned Greater = refl

either_way : (a b : List ℕ) → same a b ≡ is_eq (bytes_cmp b a)
either_way a b = ap is_eq (nat_list_cmp_total.antisymm a b) ∙ turned (bytes_cmp b a)

-- the first columns are of the atom itself, or of another
own_cell : (i j : ℕ) (n : List ℕ) (cs : List Column) (row more : List Value)
    (rest : List AtomColumn) → (i == j) ≡ true → length row ≡ length cs
    → cells rest more (Atom j) n ≡ Int (pos 0)
    → cells (columns_at i cs ++ rest) (row ++ more) (Atom j) n ≡ cell cs row n
own_cell i j n [] [] more rest e l d = d
own_cell i j n [] (v ∷ row) more rest e l d = absurd (omega arith)
own_cell i j n (c ∷ cs) [] more rest e l d = absurd (omega arith)
own_cell i j n (c ∷ cs) (v ∷ row) more rest e l d =
    ap (λ b. cond (b && same n c.0) v (cells (columns_at i cs ++ rest) (row ++ more) (Atom j) n)) e
    ∙ ap (λ b. cond b v (cells (columns_at i cs ++ rest) (row ++ more) (Atom j) n))
    (either_way n c.0)
    ∙ ap (λ x. cond (is_eq (bytes_cmp c.0 n)) v x)
    (own_cell i j n cs row more rest e (omega arith) d)

other_cell : (i j : ℕ) (n : List ℕ) (cs : List Column) (row more : List Value)
    (rest : List AtomColumn) → (i == j) ≡ false → length row ≡ length cs
    → cells (columns_at i cs ++ rest) (row ++ more) (Atom j) n ≡ cells rest more (Atom j) n
other_cell i j n [] [] more rest e l = refl
other_cell i j n [] (v ∷ row) more rest e l = absurd (omega arith)
other_cell i j n (c ∷ cs) [] more rest e l = absurd (omega arith)
other_cell i j n (c ∷ cs) (v ∷ row) more rest e l =
    ap (λ b. cond (b && same n c.0) v (cells (columns_at i cs ++ rest) (row ++ more) (Atom j) n)) e
    ∙ other_cell i j n cs row more rest e (omega arith)

-- of an atom before all of them, and of what is no atom
none_of_these : (i j : ℕ) (n : List ℕ) (cs : List Column) (rest : List AtomColumn)
    → (i == j) ≡ false → ((row : List Value) → cells rest row (Atom j) n ≡ Int (pos 0))
    → (row : List Value) → cells (columns_at i cs ++ rest) row (Atom j) n ≡ Int (pos 0)
none_of_these i j n [] rest e f row = f row
none_of_these i j n (c ∷ cs) rest e f [] = refl
none_of_these i j n (c ∷ cs) rest e f (v ∷ row) =
    ap (λ b. cond (b && same n c.0) v (cells (columns_at i cs ++ rest) row (Atom j) n)) e
    ∙ none_of_these i j n cs rest e f row

before_all : (k j : ℕ) (n : List ℕ) (columns : List (List Column)) → j < k → (row : List Value)
    → cells (atoms_from k columns) row (Atom j) n ≡ Int (pos 0)
before_all k j n [] h row = refl
before_all k j n (cs ∷ columns) h row = none_of_these k j n cs (atoms_from (k + 1) columns)
    (grind (arith, nat_tests)) (before_all (k + 1) j n columns (omega arith)) row

no_alias : (cs : List AtomColumn) (row : List Value) (a n : List ℕ)
    → cells cs row (Alias a) n ≡ Int (pos 0)
no_alias [] row a n = refl
no_alias (c ∷ cs) [] a n = refl
no_alias (c ∷ cs) (v ∷ row) a n = no_alias cs row a n

no_free : (cs : List AtomColumn) (row : List Value) (n : List ℕ) → cells cs row Free n ≡ Int (pos 0)
no_free [] row n = refl
no_free (c ∷ cs) [] n = refl
no_free (c ∷ cs) (v ∷ row) n = no_free cs row n

-- a choice has a row of the right width for each atom
abbrev Shape : List (List Column) → List (List Value) → Type 0
Shape [] [] = Unit {0}
Shape [] (row ∷ choice) = ⊥
Shape (cs ∷ columns) [] = ⊥
Shape (cs ∷ columns) (row ∷ choice) = (length row ≡ length cs) × Shape columns choice

at_atom : (k : ℕ) (columns : List (List Column)) (choice : List (List Value)) (i : ℕ) (n : List ℕ)
    → Shape columns choice → cells (atoms_from k columns) (one_row choice) (Atom (i + k)) n
    ≡ chosen_cell columns choice i n
at_atom k [] [] i n h = refl
at_atom k [] (row ∷ choice) i n h = absurd h
at_atom k (cs ∷ columns) [] i n h = absurd h
at_atom k (cs ∷ columns) (row ∷ choice) zero n h =
    own_cell k (0 + k) n cs row (one_row choice) (atoms_from (k + 1) columns)
    (grind (arith, nat_tests)) h.0 (before_all (k + 1) (0 + k) n columns (omega arith)
    (one_row choice))
at_atom k (cs ∷ columns) (row ∷ choice) (suc i) n h =
    let e : suc i + k ≡ i + (k + 1) = omega arith in
    other_cell k (suc i + k) n cs row (one_row choice) (atoms_from (k + 1) columns)
    (grind (arith, nat_tests)) h.0
    ∙ ap (λ j. cells (atoms_from (k + 1) columns) (one_row choice) (Atom j) n) e
    ∙ at_atom (k + 1) columns choice i n h.1

in_choice : (columns : List (List Column)) (choice : List (List Value)) (w : Whose) (n : List ℕ)
    → Shape columns choice → cells (atoms_from 0 columns) (one_row choice) w n
    ≡ chosen_cells columns choice w n
in_choice columns choice Free n h = no_free (atoms_from 0 columns) (one_row choice) n
in_choice columns choice (Alias a) n h = no_alias (atoms_from 0 columns) (one_row choice) a n
in_choice columns choice (Atom i) n h = let e : i ≡ i + 0 = omega arith in
    ap (λ j. cells (atoms_from 0 columns) (one_row choice) (Atom j) n) e
    ∙ at_atom 0 columns choice i n h

same_cells : (columns : List (List Column)) (choice : List (List Value)) → Shape columns choice
    → cells (atoms_from 0 columns) (one_row choice) ≡ chosen_cells columns choice
same_cells columns choice h = fun_ext (λ w. fun_ext (λ n. in_choice columns choice w n h))

types_have : (k m : ℕ) (columns : List (List Column)) (atoms : List OneAtom)
    → HaveAtoms k columns atoms → types_of (blocks_of m atoms) ≡ atoms_from k columns
types_have k m [] [] h = refl
types_have k m [] (a ∷ atoms) h = absurd h
types_have k m (cs ∷ columns) [] h = absurd h
types_have k m (cs ∷ columns) (a ∷ atoms) h =
    ap (λ (l : List AtomColumn). l ++ types_of (blocks_of m atoms)) h.0
    ∙ ap (λ (l : List AtomColumn). columns_at k cs ++ l) (types_have (k + 1) m columns atoms h.1)

-- each choice of rows that hold has that shape
shaped : (k m : ℕ) (columns : List (List Column)) (atoms : List OneAtom) → HaveAtoms k columns atoms
    → (choice : List (List Value)) → In choice (choices (rows_of (blocks_of m atoms)))
    → Shape columns choice
shaped k m [] [] h choice (inl e) = subst (Shape []) e tt
shaped k m [] [] h choice (inr i) = absurd i
shaped k m [] (a ∷ atoms) h choice i = absurd h
shaped k m (cs ∷ columns) [] h choice i = absurd h
shaped k m (cs ∷ columns) (a ∷ atoms) h choice i =
    let r = from_flat_map (λ (x : List Value).
    map (λ (d : List (List Value)). x ∷ d) (choices (rows_of (blocks_of m atoms)))) choice
    (rows_at a.rows.items m) i in
    let q = from_map (λ (d : List (List Value)). r.0 ∷ d) choice
    (choices (rows_of (blocks_of m atoms))) r.2 in
    let held = (in_at row_cmp row_exact (entries_of a.rows.items) r.0 m).0 r.1 in
    let many : length (columns_at k cs) ≡ length cs =
    length-map cs (λ (c : Column). record { atom = k; name = c.0; kind = c.1 }) in
    subst (Shape (cs ∷ columns)) q.2 (
      ap length (sym held.2) ∙ (a.fit held.0 held.1).0
          ∙ ap length h.0 ∙ many,
      shaped (k + 1) m columns atoms h.1 q.0 q.1,
    )

module _ (columns : List (List Column)) (outs : List Tree) (test : Test) where
  each_answered : (cs : List (List (List Value)))
      → ((c : List (List Value)) → In c cs → Shape columns c)
      → map (outputs (atoms_from 0 columns) outs)
      (filter (meets (atoms_from 0 columns) test) (map one_row cs))
      ≡ map (answered columns outs) (filter (choice_meets columns test) cs)
  each_answered [] h = refl
  each_answered (c ∷ cs) h = step (each_answered cs (λ d i. h d (inr i)))
      (choice_meets columns test c)
      refl
    where
      same : cells (atoms_from 0 columns) (one_row c) ≡ chosen_cells columns c
      same = same_cells columns c (h c (inl refl))

      met : meets (atoms_from 0 columns) test (one_row c) ≡ choice_meets columns test c
      met = ap (λ (at : Cells). truth at test) same

      step : map (outputs (atoms_from 0 columns) outs)
          (filter (meets (atoms_from 0 columns) test) (map one_row cs))
          ≡ map (answered columns outs) (filter (choice_meets columns test) cs) → (t : Bool)
          → choice_meets columns test c ≡ t
          → map (outputs (atoms_from 0 columns) outs)
          (cond (meets (atoms_from 0 columns) test (one_row c))
          (one_row c ∷ filter (meets (atoms_from 0 columns) test) (map one_row cs))
          (filter (meets (atoms_from 0 columns) test) (map one_row cs)))
          ≡ map (answered columns outs) (cond (choice_meets columns test c)
          (c ∷ filter (choice_meets columns test) cs) (filter (choice_meets columns test) cs))
      step f true e = rw (met, e) (ap (λ (x : List Value).
          x ∷ map (outputs (atoms_from 0 columns) outs)
          (filter (meets (atoms_from 0 columns) test) (map one_row cs)))
          (ap (λ (at : Cells). map (value at) outs) same)
          ∙ ap (λ (l : List (List Value)). answered columns outs c ∷ l) f)
      step f false e = rw (met, e) f

  pub choices_answered : (atoms : List OneAtom) (m : ℕ) → HaveAtoms 0 columns atoms
      → answered_rows outs test (blocks_of m atoms)
      ≡ answers_over columns (rows_of (blocks_of m atoms)) outs test
  choices_answered atoms m h =
      ap (λ (cs : List AtomColumn). map (outputs cs outs)
      (filter (meets cs test) (map one_row (choices (rows_of (blocks_of m atoms))))))
      (types_have 0 m columns atoms h)
      ∙ each_answered (choices (rows_of (blocks_of m atoms))) (shaped 0 m columns atoms h)
