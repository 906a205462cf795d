-- A piece over made tables means what its unfoldings mean over the tables that they are made of.
use Rattle.std.specs.Prelude.{◌≡◌, ℕ, zero, suc, ◌+◌, List, [], ◌∷◌, ◌++◌, Bool, true, ◌&&◌, Option}
use Rattle.std.specs.Prelude.{Some, None, map, length, is_some, ⊤}
use Rattle.std.proofs.Common.{refl, sym, ap, subst, ◌∙◌, inl, inr, arith}
use Rattle.std.specs.List.{list_all, flat_map}
use Rattle.std.specs.FinMap.{get}
use Rattle.relations_spec.specs.Sets.{In}
use Rattle.relations_spec.specs.Choices.{Chosen, choices}
use Rattle.relations_spec.proofs.SetLaws.{in_map, from_map, in_flat_map, from_flat_map, set_same}
use Rattle.relations_spec.proofs.ChoiceLaws.{in_choices, from_choices}
use Rattle.prima_base.specs.declared.value.ColType.{ColType}
use Rattle.prima_base.specs.Columns.{Column}
use Rattle.prima_base.specs.Order.{row_cmp}
use Rattle.prima_base.specs.OrderLaws.{row_exact}
use Rattle.schema_catalog.specs.Tables.{Tables}
use Rattle.schema_catalog.specs.Databases.{Database}
use Rattle.cond_expr.specs.declared.expr.Whose.{Whose}
use Rattle.cond_expr.specs.Trees.{Tree, Test, fill, fill_test}
use Rattle.cond_expr.specs.Values.{Cells, value, truth}
use Rattle.cond_expr.specs.Kinds.{kind_of, is_typed}
use Rattle.cond_expr.proofs.TreeLaws.{value_fill, truth_fill, value_like, truth_like}
use Rattle.smo_ops_spec.specs.OneRow.{Row, Relation}
use Rattle.smo_ops_spec.specs.Effects.{columns_of, rows_under}
use Rattle.smo_ops_spec.specs.Preconditions.{type_in}
use Rattle.plain_answers_spec.specs.Choosing.{chosen_cell, chosen_cells, answered}
use Rattle.plain_answers_spec.proofs.PlainRows.{in_answers, from_answers}
use Rattle.piece_ir_spec.specs.Pieces.{PlainPiece, out_trees, atom_columns, atom_rows}
use Rattle.piece_ir_spec.specs.Pieces.{piece_answers, means, all_mean, PieceGives}
use Rattle.piece_ir_spec.specs.Typed.{IsTyped, atom_kinds, HaveTypes}
use Rattle.piece_ir_spec.specs.Views.{PlainView, out_of}
use Rattle.piece_ir_spec.specs.Unfolding.{moved_on, put_from, put_for, parts_from, filled_outs}
use Rattle.piece_ir_spec.specs.Unfolding.{atoms_of, unfolded}
use Rattle.piece_ir_spec.specs.Given.{Picks, HasOutputs, AreGiven, IsTypedView}
use Rattle.piece_ir_spec.proofs.KnownKinds.{Known, known_within, test_known_within}
use Rattle.piece_ir_spec.proofs.AtomKinds.{atom_kind, known_atom, typed_named}
use Rattle.piece_ir_spec.proofs.JoinedChoices.{After, after_rest, value_after, truth_after}
use Rattle.piece_ir_spec.proofs.JoinedChoices.{chosen_both, chosen_split, chosen_long, map_both}
use Rattle.piece_ir_spec.proofs.JoinedChoices.{length_map}
use Rattle.piece_ir_spec.proofs.AddedParts.{both_true, and_true, with_true, true_with}

all_append : {X : Type 0} (p : X → Bool) (xs ys : List X) → list_all p xs ≡ true
    → list_all p ys ≡ true → list_all p (xs ++ ys) ≡ true
all_append p [] ys e f = f
all_append p (x ∷ xs) ys e f = let b = both_true (p x) (list_all p xs) e in
    and_true (p x) (list_all p (xs ++ ys)) b.0 (all_append p xs ys b.1 f)

append_all : {X : Type 0} (p : X → Bool) (xs ys : List X) → list_all p (xs ++ ys) ≡ true
    → (list_all p xs ≡ true) × (list_all p ys ≡ true)
append_all p [] ys e = (refl, e)
append_all p (x ∷ xs) ys e =
    let b = both_true (p x) (list_all p (xs ++ ys)) e in
    let m = append_all p xs ys b.1 in
    (and_true (p x) (list_all p xs) b.0 m.0, m.1)

pub known_type : (o : Option ColType) → is_some o ≡ true → (k : ColType) × (o ≡ Some k)
known_type None e = absurd (cc)
known_type (Some k) e = (k, refl)

-- the tables before with their database, and the made ones with theirs
module _ (t : Tables) (db : Database) (u : Tables) (eb : Database) (vs : List ℕ
    → List PlainView) where
  -- a table is given by its views
  pub record IsMade (a : List ℕ) : Type 0 where
    pub given : AreGiven t db (columns_of u a) (rows_under (get eb a)) (vs a)
    pub typed : (v : PlainView) → In v (vs a) → IsTypedView t (columns_of u a) v

  abbrev pub AreMade : List (List ℕ) → Type 0
  AreMade [] = ⊤
  AreMade (a ∷ atoms) = IsMade a × AreMade atoms

  -- a row of an atom, and the choice of rows that gives it
  record Link : Type 0 where
    pub atom : List ℕ
    pub view : PlainView
    pub row : Row
    pub choice : List Row
    pub made : IsMade atom
    pub of : In view (vs atom)
    pub picks : Picks t db view choice
    pub shows : HasOutputs t (columns_of u atom) view choice row
    pub there : In row (rows_under (get eb atom))

  abbrev link_atoms : List Link → List (List ℕ)
  link_atoms ls = map (λ (l : Link). l.atom) ls

  abbrev link_views : List Link → List PlainView
  link_views ls = map (λ (l : Link). l.view) ls

  abbrev link_rows : List Link → List Row
  link_rows ls = map (λ (l : Link). l.row) ls

  abbrev link_choice : List Link → List Row
  link_choice ls = flat_map (λ (l : Link). l.choice) ls

  -- each choice over made tables comes from links
  links_from : (atoms : List (List ℕ)) → AreMade atoms → (rows : List Row)
      → Chosen rows (atom_rows eb atoms)
      → (ls : List Link) × (link_atoms ls ≡ atoms) × (link_rows ls ≡ rows)
  links_from [] v [] h = ([], refl, refl)
  links_from [] v (r ∷ rows) h = absurd h
  links_from (a ∷ atoms) v [] h = absurd h
  links_from (a ∷ atoms) v (r ∷ rows) h =
      let g = v.0.given.there r h.0 in
      let more = links_from atoms v.1 rows h.1 in
      let l : Link = record {
        atom = a;
        view = g.0;
        row = r;
        choice = g.1;
        made = v.0;
        of = g.2;
        picks = g.3;
        shows = g.4;
        there = h.0;
      } in
      (l ∷ more.0, ap (λ (x : List (List ℕ)). a ∷ x) more.1, ap (λ (x : List Row). r ∷ x) more.2)

  views_chosen : (ls : List Link) → Chosen (link_views ls) (map vs (link_atoms ls))
  views_chosen [] = tt
  views_chosen (l ∷ ls) = (l.of, views_chosen ls)

  rows_chosen : (ls : List Link) → Chosen (link_rows ls) (atom_rows eb (link_atoms ls))
  rows_chosen [] = tt
  rows_chosen (l ∷ ls) = (l.there, rows_chosen ls)

  abbrev rows_of_atom : List ℕ → Relation
  rows_of_atom n = rows_under (get db n)

  choice_chosen : (ls : List Link) → Chosen (link_choice ls)
      (atom_rows db (atoms_of (link_views ls)))
  choice_chosen [] = tt
  choice_chosen (l ∷ ls) =
      rw (map_both rows_of_atom l.view.atoms (atoms_of (link_views ls)))
      (chosen_both l.choice (link_choice ls) (atom_rows db l.view.atoms)
      (atom_rows db (atoms_of (link_views ls))) l.picks.chosen (choice_chosen ls))

  long : (v : PlainView) (choice : List Row) → Chosen choice (atom_rows db v.atoms)
      → length (atom_columns t v.atoms) ≡ length choice
  long v choice h = length_map (columns_of t) v.atoms ∙ sym (length_map rows_of_atom v.atoms)
      ∙ chosen_long choice (atom_rows db v.atoms) h

  -- what stands after the first view's atoms
  parted : (at : Cells) (off : ℕ) (v : PlainView) (views : List PlainView) (c d : List Row)
      → After at off (atom_columns t (atoms_of (v ∷ views))) (c ++ d)
      → After at off (atom_columns t v.atoms ++ atom_columns t (atoms_of views)) (c ++ d)
  parted at off v views c d b = subst (λ (x : List (List Column)). After at off x (c ++ d))
      (map_both (columns_of t) v.atoms (atoms_of views)) b

  gone_on : (at : Cells) (off : ℕ) (v : PlainView) (views : List PlainView) (c d : List Row)
      → Chosen c (atom_rows db v.atoms)
      → After at off (atom_columns t (atoms_of (v ∷ views))) (c ++ d)
      → After at (off + length v.atoms) (atom_columns t (atoms_of views)) d
  gone_on at off v views c d h b =
      subst (λ (k : ℕ). After at (off + k) (atom_columns t (atoms_of views)) d)
      (length_map (columns_of t) v.atoms)
      (after_rest at off (atom_columns t v.atoms) (atom_columns t (atoms_of views)) c d (long v c h)
      (parted at off v views c d b))

  -- a view's parts, where its atoms begin at a place
  parts_like : (at : Cells) (off : ℕ) (v : PlainView) (views : List PlainView) (c d : List Row)
      → Chosen c (atom_rows db v.atoms)
      → After at off (atom_columns t (atoms_of (v ∷ views))) (c ++ d) → (ps : List Test)
      → ((p : Test) → In p ps → is_typed (atom_kinds t v.atoms) p ≡ true)
      → list_all (truth at) (map (fill_test (moved_on off)) ps)
      ≡ list_all (truth (chosen_cells (atom_columns t v.atoms) c)) ps
  parts_like at off v views c d h b [] typed = refl
  parts_like at off v views c d h b (p ∷ ps) typed =
      let e = truth_after at off (atom_columns t v.atoms) (atom_columns t (atoms_of views)) c d
      (long v c h) (parted at off v views c d b) p (typed p (inl refl)) in
      let f = parts_like at off v views c d h b ps (λ q m. typed q (inr m)) in
      ap (λ x. x && list_all (truth at) (map (fill_test (moved_on off)) ps)) e
      ∙ ap (λ x. truth (chosen_cells (atom_columns t v.atoms) c) p && x) f

  parts_met : (at : Cells) (off : ℕ) (ls : List Link)
      → After at off (atom_columns t (atoms_of (link_views ls))) (link_choice ls)
      → list_all (truth at) (parts_from off (link_views ls)) ≡ true
  parts_met at off [] b = refl
  parts_met at off (l ∷ ls) b =
      all_append (truth at) (map (fill_test (moved_on off)) l.view.parts)
      (parts_from (off + length l.view.atoms) (link_views ls))
      (parts_like at off l.view (link_views ls) l.choice (link_choice ls) l.picks.chosen b
      l.view.parts (l.made.typed l.view l.of).parts ∙ l.picks.met)
      (parts_met at (off + length l.view.atoms) ls
      (gone_on at off l.view (link_views ls) l.choice (link_choice ls) l.picks.chosen b))

  put_like : (at : Cells) (off : ℕ) (ls : List Link)
      → After at off (atom_columns t (atoms_of (link_views ls))) (link_choice ls)
      → (i : ℕ) (n : List ℕ)
      → is_some (atom_kind (atom_columns u (link_atoms ls)) i n) ≡ true
      → value at (put_from off (link_views ls) i n)
      ≡ chosen_cell (atom_columns u (link_atoms ls)) (link_rows ls) i n
  put_like at off [] b i n h = absurd (cc)
  put_like at off (l ∷ ls) b zero n h =
      let k = known_type (type_in (columns_of u l.atom) n) h in
      let o = (l.made.typed l.view l.of).outs n k.0 k.1 in
      value_after at off (atom_columns t l.view.atoms) (atom_columns t (atoms_of (link_views ls)))
      l.choice (link_choice ls) (long l.view l.choice l.picks.chosen)
      (parted at off l.view (link_views ls) l.choice (link_choice ls) b) (out_of l.view.outs n)
      (ap is_some o)
      ∙ sym (l.shows.is n (typed_named (columns_of u l.atom) n h))
  put_like at off (l ∷ ls) b (suc i) n h =
      put_like at (off + length l.view.atoms) ls
      (gone_on at off l.view (link_views ls) l.choice (link_choice ls) l.picks.chosen b) i n h

  abbrev cells_before : List Link → Cells
  cells_before ls = chosen_cells (atom_columns t (atoms_of (link_views ls))) (link_choice ls)

  abbrev cells_after : List Link → Cells
  cells_after ls = chosen_cells (atom_columns u (link_atoms ls)) (link_rows ls)

  begun : (columns : List (List Column)) (choice : List Row)
      → After (chosen_cells columns choice) 0 columns choice
  begun columns choice = record {
    is = λ k n.
        (let z : 0 + k ≡ k = omega arith in ap (λ (j : ℕ). chosen_cell columns choice j n) z);
  }

  -- what stands for a column has in the links' choice what the column has in their rows
  like : (ls : List Link) (w : Whose) (n : List ℕ) → Known (atom_kinds u (link_atoms ls)) w n
      → value (cells_before ls) (put_for (link_views ls) w n) ≡ cells_after ls w n
  like ls w n h =
      known_atom (atom_columns u (link_atoms ls))
      (λ (x : Whose). value (cells_before ls) (put_for (link_views ls) x n)
      ≡ cells_after ls x n) w n h
      (λ i k. put_like (cells_before ls) 0 ls
      (begun (atom_columns t (atoms_of (link_views ls))) (link_choice ls)) i n k)

  same_truth : (ls : List Link) (c : Test) → is_typed (atom_kinds u (link_atoms ls)) c ≡ true
      → truth (cells_before ls) (fill_test (put_for (link_views ls)) c) ≡ truth (cells_after ls) c
  same_truth ls c h =
      truth_fill (cells_before ls) (put_for (link_views ls)) c
      ∙ truth_like (Known (atom_kinds u (link_atoms ls)))
      (λ w n. value (cells_before ls) (put_for (link_views ls) w n)) (cells_after ls) (like ls)
      c
      (test_known_within (atom_kinds u (link_atoms ls)) c h)

  same_value : (ls : List Link) (e : Tree) → is_some (kind_of (atom_kinds u (link_atoms ls)) e)
      ≡ true
      → value (cells_before ls) (fill (put_for (link_views ls)) e) ≡ value (cells_after ls) e
  same_value ls e h =
      value_fill (cells_before ls) (put_for (link_views ls)) e
      ∙ value_like (Known (atom_kinds u (link_atoms ls)))
      (λ w n. value (cells_before ls) (put_for (link_views ls) w n)) (cells_after ls) (like ls)
      e
      (known_within (atom_kinds u (link_atoms ls)) e h)

  same_row : (ls : List Link) (outs : List (List ℕ × Tree))
      → HaveTypes (atom_kinds u (link_atoms ls)) (out_trees outs)
      → map (value (cells_before ls)) (out_trees (filled_outs (put_for (link_views ls)) outs))
      ≡ map (value (cells_after ls)) (out_trees outs)
  same_row ls [] h = refl
  same_row ls (o ∷ outs) h =
      let e = same_value ls o.1 (h o.1 (inl refl)) in
      let f = same_row ls outs (λ x m. h x (inr m)) in
      cc

  -- each choice that meets the views' parts comes from links
  links_back : (at : Cells) (off : ℕ) (atoms : List (List ℕ)) → AreMade atoms
      → (views : List PlainView) → Chosen views (map vs atoms) → (choice : List Row)
      → Chosen choice (atom_rows db (atoms_of views))
      → After at off (atom_columns t (atoms_of views)) choice
      → list_all (truth at) (parts_from off views) ≡ true
      → (ls : List Link) × (link_atoms ls ≡ atoms) × (link_views ls ≡ views)
      × (link_choice ls ≡ choice)
  links_back at off [] v [] h [] k b e = ([], refl, refl, refl)
  links_back at off [] v [] h (r ∷ choice) k b e = absurd k
  links_back at off [] v (w ∷ views) h choice k b e = absurd h
  links_back at off (a ∷ atoms) v [] h choice k b e = absurd h
  links_back at off (a ∷ atoms) v (w ∷ views) h choice k b e =
      let s = chosen_split choice (atom_rows db w.atoms) (atom_rows db (atoms_of views))
      (subst (λ (x : List Relation). Chosen choice x)
      (map_both rows_of_atom w.atoms (atoms_of views)) k) in
      let c : After at off (atom_columns t (atoms_of (w ∷ views))) (s.0 ++ s.1) =
      subst (λ (x : List Row). After at off (atom_columns t (atoms_of (w ∷ views))) x) (sym s.2)
      b in
      let f = append_all (truth at) (map (fill_test (moved_on off)) w.parts)
      (parts_from (off + length w.atoms) views) e in
      let q = parts_like at off w views s.0 s.1 s.3 c w.parts (v.0.typed w h.0).parts in
      let pick : Picks t db w s.0 = record { chosen = s.3; met = sym q ∙ f.0 } in
      let r = v.0.given.back w h.0 s.0 pick in
      let l : Link = record {
        atom = a;
        view = w;
        row = r.0;
        choice = s.0;
        made = v.0;
        of = h.0;
        picks = pick;
        shows = r.2;
        there = r.1;
      } in
      let more = links_back at (off + length w.atoms) atoms v.1 views h.1 s.1 s.4
      (gone_on at off w views s.0 s.1 s.3 c) f.1 in (
        l ∷ more.0,
        ap (λ (x : List (List ℕ)). a ∷ x) more.1,
        ap (λ (x : List PlainView). w ∷ x) more.2,
        ap (λ (x : List Row). s.0 ++ x) more.3 ∙ s.2,
      )

  -- ---- the piece and its unfoldings give the same rows

  module _ (p : PlainPiece) (made : AreMade p.atoms) (typed : IsTyped u p) where
    abbrev news : List PlainPiece
    news = map (unfolded p) (choices (map vs p.atoms))

    typed_at : (ls : List Link) → link_atoms ls ≡ p.atoms
        → (is_typed (atom_kinds u (link_atoms ls)) p.cond ≡ true)
        × HaveTypes (atom_kinds u (link_atoms ls)) (out_trees p.outs)
    typed_at ls e =
        subst (λ (x : List (List ℕ)). (is_typed (atom_kinds u x) p.cond ≡ true)
        × HaveTypes (atom_kinds u x) (out_trees p.outs)) (sym e) (typed.cond, typed.outs)

    -- what the links' choice gives in the unfolding, their rows give in the piece
    gives_after : (ls : List Link) → link_atoms ls ≡ p.atoms → (row : Row)
        → truth (cells_before ls) (fill_test (put_for (link_views ls)) p.cond) ≡ true
        → map (value (cells_before ls)) (out_trees (filled_outs (put_for (link_views ls)) p.outs))
        ≡ row → PieceGives u eb p row
    gives_after ls e row met is =
        let w = typed_at ls e in record {
          choice = link_rows ls;
          chosen = subst (λ (x : List (List ℕ)). Chosen (link_rows ls) (atom_rows eb x)) e
              (rows_chosen ls);
          met = subst (λ (x : List (List ℕ)).
              truth (chosen_cells (atom_columns u x) (link_rows ls)) p.cond ≡ true) e
              (sym (same_truth ls p.cond w.0) ∙ met);
          is = subst (λ (x : List (List ℕ)). answered (atom_columns u x) (out_trees p.outs)
              (link_rows ls) ≡ row) e (sym (same_row ls p.outs w.1) ∙ is);
        }

    gives_before : (ls : List Link) → link_atoms ls ≡ p.atoms → (row : Row)
        → truth (cells_after ls) p.cond ≡ true
        → map (value (cells_after ls)) (out_trees p.outs) ≡ row
        → PieceGives t db (unfolded p (link_views ls)) row
    gives_before ls e row met is =
        let w = typed_at ls e in record {
          choice = link_choice ls;
          chosen = choice_chosen ls;
          met = with_true (cells_before ls) (fill_test (put_for (link_views ls)) p.cond)
              (parts_from 0 (link_views ls)) (same_truth ls p.cond w.0 ∙ met)
              (parts_met (cells_before ls) 0 ls
              (begun (atom_columns t (atoms_of (link_views ls))) (link_choice ls)));
          is = same_row ls p.outs w.1 ∙ is;
        }

    unfolded_gives : (row : Row) → PieceGives u eb p row → (q : PlainPiece) × In q news
        × PieceGives t db q row
    unfolded_gives row g =
        let f = links_from p.atoms made g.choice g.chosen in
        let ls = f.0 in
        let sel = link_views ls in (
          unfolded p sel,
          in_map (unfolded p) sel (choices (map vs p.atoms))
              (in_choices sel (map vs p.atoms)
              (subst (λ (x : List (List ℕ)). Chosen sel (map vs x)) f.1 (views_chosen ls))),
          gives_before ls f.1 row
              (subst (λ (x : List (List ℕ)). truth (chosen_cells (atom_columns u x) (link_rows ls))
              p.cond ≡ true) (sym f.1)
              (subst (λ (x : List Row). truth (chosen_cells (atom_columns u p.atoms) x) p.cond
              ≡ true) (sym f.2) g.met))
              (subst (λ (x : List (List ℕ)). answered (atom_columns u x) (out_trees p.outs)
              (link_rows ls) ≡ row) (sym f.1)
              (subst (λ (x : List Row). answered (atom_columns u p.atoms) (out_trees p.outs) x
              ≡ row) (sym f.2) g.is)),
        )

    -- links of these views and this choice
    gives_from : (sel : List PlainView) (choice : List Row) (row : Row)
        → (ls : List Link) × (link_atoms ls ≡ p.atoms) × (link_views ls ≡ sel)
        × (link_choice ls ≡ choice)
        → truth (chosen_cells (atom_columns t (atoms_of sel)) choice)
        (fill_test (put_for sel) p.cond) ≡ true
        → map (value (chosen_cells (atom_columns t (atoms_of sel)) choice))
        (out_trees (filled_outs (put_for sel) p.outs)) ≡ row → PieceGives u eb p row
    gives_from sel choice row k met is = gives_after k.0 k.1 row (rw (k.2, k.3) met)
        (rw (k.2, k.3) is)

    piece_gives : (q : PlainPiece) → In q news → (row : Row) → PieceGives t db q row
        → PieceGives u eb p row
    piece_gives q m row g =
        let f = from_map (unfolded p) q (choices (map vs p.atoms)) m in
        let sel = f.0 in
        let h : PieceGives t db (unfolded p sel) row =
        subst (λ (x : PlainPiece). PieceGives t db x row) (sym f.2) g in
        let columns = atom_columns t (atoms_of sel) in
        let two = true_with (chosen_cells columns h.choice) (fill_test (put_for sel) p.cond)
        (parts_from 0 sel) h.met in
        let k = links_back (chosen_cells columns h.choice) 0 p.atoms made sel
        (from_choices sel (map vs p.atoms) f.1) h.choice h.chosen (begun columns h.choice)
        two.1 in
        gives_from sel h.choice row k two.0 h.is

    pub same_meaning : all_mean t db news ≡ means u eb p
    same_meaning = set_same row_cmp row_exact (flat_map (piece_answers t db) news)
        (piece_answers u eb p) (record {
          there = λ row m. (
              let f = from_flat_map (piece_answers t db) row news m in
              in_answers (atom_columns u p.atoms) (atom_rows eb p.atoms) (out_trees p.outs) p.cond
              row (piece_gives f.0 f.1 row (from_answers (atom_columns t f.0.atoms)
              (atom_rows db f.0.atoms) (out_trees f.0.outs) f.0.cond row f.2))
              );
          back = λ row m. (
              let g = unfolded_gives row (from_answers (atom_columns u p.atoms)
              (atom_rows eb p.atoms) (out_trees p.outs) p.cond row m) in
              in_flat_map (piece_answers t db) g.0 row news g.1
              (in_answers (atom_columns t g.0.atoms) (atom_rows db g.0.atoms) (out_trees g.0.outs)
              g.0.cond row g.2)
              );
        })
