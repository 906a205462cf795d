-- The unfoldings of a well-typed piece are well-typed, with the same output names and types, over
-- atoms of the views.
use Rattle.std.specs.Prelude.{◌≡◌, ℕ, zero, suc, ◌+◌, List, [], ◌∷◌, ◌++◌, true, map, length}
use Rattle.std.specs.Prelude.{is_some}
use Rattle.std.proofs.Common.{refl, sym, ap, subst, ◌∙◌, inl, inr, arith, append_assoc}
use Rattle.relations_spec.specs.Sets.{In, Ascends}
use Rattle.relations_spec.specs.Choices.{Chosen}
use Rattle.relations_spec.proofs.SetLaws.{in_append, from_map, from_flat_map}
use Rattle.prima_base.specs.Order.{bytes_cmp}
use Rattle.prima_base.specs.Columns.{Column}
use Rattle.schema_catalog.specs.Tables.{Tables}
use Rattle.cond_expr.specs.declared.expr.Whose.{Whose}
use Rattle.cond_expr.specs.Trees.{Tree, Test, fill, fill_test}
use Rattle.cond_expr.specs.Kinds.{Kinds, kind_of, is_typed}
use Rattle.cond_expr.proofs.KindLaws.{kind_fill, typed_fill}
use Rattle.smo_ops_spec.specs.Effects.{columns_of}
use Rattle.smo_ops_spec.specs.Preconditions.{type_in}
use Rattle.cond_expr.specs.AtomColumns.{kinds_of_atoms}
use Rattle.piece_ir_spec.specs.Pieces.{PlainPiece, out_names, out_trees, atom_columns}
use Rattle.piece_ir_spec.specs.Typed.{AreThere, atom_kinds, HaveTypes, IsTyped, typed_names}
use Rattle.piece_ir_spec.specs.Typed.{output_types}
use Rattle.piece_ir_spec.specs.Views.{PlainView, out_of}
use Rattle.piece_ir_spec.specs.Unfolding.{moved_on, put_from, put_for, parts_from, filled_outs}
use Rattle.piece_ir_spec.specs.Unfolding.{atoms_of, unfolded}
use Rattle.piece_ir_spec.specs.Given.{IsTypedView}
use Rattle.piece_ir_spec.proofs.KnownKinds.{Known, known_within, test_known_within, kind_like}
use Rattle.piece_ir_spec.proofs.KnownKinds.{typed_like}
use Rattle.piece_ir_spec.proofs.AtomKinds.{atom_kind, kinds_at, known_atom}
use Rattle.piece_ir_spec.proofs.JoinedChoices.{map_both, length_map}
use Rattle.piece_ir_spec.proofs.AddedParts.{with_typed}
use Rattle.piece_ir_spec.proofs.UnfoldedMeaning.{known_type}

left_kind : (xs ys : List (List Column)) (k : ℕ) (n : List ℕ) → is_some (atom_kind xs k n) ≡ true
    → atom_kind (xs ++ ys) k n ≡ atom_kind xs k n
left_kind [] ys k n h = absurd (cc)
left_kind (x ∷ xs) ys zero n h = refl
left_kind (x ∷ xs) ys (suc k) n h = left_kind xs ys k n h

middle_kind : (prefix xs ys : List (List Column)) (k : ℕ) (n : List ℕ)
    → is_some (atom_kind xs k n) ≡ true
    → atom_kind (prefix ++ (xs ++ ys)) (length prefix + k) n ≡ atom_kind xs k n
middle_kind [] xs ys k n h = let z : 0 + k ≡ k = omega arith in
    ap (λ (j : ℕ). atom_kind (xs ++ ys) j n) z ∙ left_kind xs ys k n h
middle_kind (f ∷ prefix) xs ys k n h =
    let z : length (f ∷ prefix) + k ≡ suc (length prefix + k) = omega arith in
    ap (λ (j : ℕ). atom_kind (f ∷ (prefix ++ (xs ++ ys))) j n) z ∙ middle_kind prefix xs ys k n h

length_both : {X : Type 0} (xs ys : List X) → length (xs ++ ys) ≡ length xs + length ys
length_both [] ys = omega arith
length_both (x ∷ xs) ys = let e = length_both xs ys in omega arith

-- what is moved on by the atoms in prefix has the type that it had
module _ (prefix xs ys : List (List Column)) where
  moved_like : (w : Whose) (n : List ℕ) → Known (kinds_of_atoms xs) w n
      → kind_of (kinds_of_atoms (prefix ++ (xs ++ ys))) (moved_on (length prefix) w n)
      ≡ kinds_of_atoms xs w n
  moved_like w n k =
      known_atom xs (λ (x : Whose). kind_of (kinds_of_atoms (prefix ++ (xs ++ ys)))
      (moved_on (length prefix) x n) ≡ kinds_of_atoms xs x n) w n k
      (λ i h. kinds_at (prefix ++ (xs ++ ys)) (length prefix + i) n ∙ middle_kind prefix xs ys i n h
      ∙ sym (kinds_at xs i n))

  moved_kind : (e : Tree) → is_some (kind_of (kinds_of_atoms xs) e) ≡ true
      → kind_of (kinds_of_atoms (prefix ++ (xs ++ ys))) (fill (moved_on (length prefix)) e)
      ≡ kind_of (kinds_of_atoms xs) e
  moved_kind e h =
      kind_fill (kinds_of_atoms (prefix ++ (xs ++ ys))) (moved_on (length prefix)) e
      ∙ kind_like (Known (kinds_of_atoms xs))
      (λ w n. kind_of (kinds_of_atoms (prefix ++ (xs ++ ys))) (moved_on (length prefix) w n))
      (kinds_of_atoms xs) moved_like e
      (known_within (kinds_of_atoms xs) e h)

  moved_typed : (c : Test) → is_typed (kinds_of_atoms xs) c ≡ true
      → is_typed (kinds_of_atoms (prefix ++ (xs ++ ys))) (fill_test (moved_on (length prefix)) c)
      ≡ true
  moved_typed c h =
      typed_fill (kinds_of_atoms (prefix ++ (xs ++ ys))) (moved_on (length prefix)) c
      ∙ typed_like (Known (kinds_of_atoms xs))
      (λ w n. kind_of (kinds_of_atoms (prefix ++ (xs ++ ys))) (moved_on (length prefix) w n))
      (kinds_of_atoms xs) moved_like c
      (test_known_within (kinds_of_atoms xs) c h)
      ∙ h

module _ (t u : Tables) (vs : List ℕ → List PlainView) where
  abbrev pub AllTypedViews : List (List ℕ) → Type 0
  AllTypedViews atoms = (a : List ℕ) → In a atoms → (v : PlainView) → In v (vs a)
      → IsTypedView t (columns_of u a) v

  -- each chosen view is one of those of an atom
  from_chosen : (atoms : List (List ℕ)) (sel : List PlainView) → Chosen sel (map vs atoms)
      → (v : PlainView) → In v sel → (a : List ℕ) × In a atoms × In v (vs a)
  from_chosen [] [] h v m = absurd m
  from_chosen [] (w ∷ sel) h v m = absurd h
  from_chosen (a ∷ atoms) [] h v m = absurd h
  from_chosen (a ∷ atoms) (w ∷ sel) h v (inl e) =
      (a, inl refl, subst (λ (x : PlainView). In x (vs a)) e h.0)
  from_chosen (a ∷ atoms) (w ∷ sel) h v (inr m) = let f = from_chosen atoms sel h.1 v m in
      (f.0, inr f.1, f.2)

  pub atom_from : (atoms : List (List ℕ)) (sel : List PlainView) → Chosen sel (map vs atoms)
      → (n : List ℕ) → In n (atoms_of sel)
      → (a : List ℕ) × (v : PlainView) × In a atoms × In v (vs a) × In n v.atoms
  atom_from atoms sel h n m =
      let f = from_flat_map (λ (v : PlainView). v.atoms) n sel m in
      let g = from_chosen atoms sel h f.0 f.1 in
      (g.0, f.0, g.1, g.2, f.2)

  -- the atoms of the first view, and those after it
  next_prefix : (prefix : List (List Column)) (v : PlainView) (sel : List PlainView)
      → (prefix ++ atom_columns t v.atoms) ++ atom_columns t (atoms_of sel) ≡ prefix
      ++ atom_columns t (atoms_of (v ∷ sel))
  next_prefix prefix v sel =
      append_assoc prefix (atom_columns t v.atoms) (atom_columns t (atoms_of sel))
      ∙ ap (λ (x : List (List Column)). prefix ++ x)
      (sym (map_both (columns_of t) v.atoms (atoms_of sel)))

  next_length : (prefix : List (List Column)) (v : PlainView)
      → length (prefix ++ atom_columns t v.atoms) ≡ length prefix + length v.atoms
  next_length prefix v = length_both prefix (atom_columns t v.atoms)
      ∙ ap (λ (k : ℕ). length prefix + k) (length_map (columns_of t) v.atoms)

  first_prefix : (prefix : List (List Column)) (v : PlainView) (sel : List PlainView)
      → prefix ++ (atom_columns t v.atoms ++ atom_columns t (atoms_of sel)) ≡ prefix
      ++ atom_columns t (atoms_of (v ∷ sel))
  first_prefix prefix v sel = ap (λ (x : List (List Column)). prefix ++ x)
      (sym (map_both (columns_of t) v.atoms (atoms_of sel)))

  put_kind : (prefix : List (List Column)) (atoms : List (List ℕ)) → AllTypedViews atoms
      → (sel : List PlainView) → Chosen sel (map vs atoms) → (i : ℕ) (n : List ℕ)
      → is_some (atom_kind (atom_columns u atoms) i n) ≡ true
      → kind_of (kinds_of_atoms (prefix ++ atom_columns t (atoms_of sel)))
      (put_from (length prefix) sel i n) ≡ atom_kind (atom_columns u atoms) i n
  put_kind prefix [] v sel h i n k = absurd (cc)
  put_kind prefix (a ∷ atoms) v [] h i n k = absurd h
  put_kind prefix (a ∷ atoms) v (w ∷ sel) h zero n k =
      let c = known_type (type_in (columns_of u a) n) k in
      let o = (v a (inl refl) w h.0).outs n c.0 c.1 in
      subst (λ (x : List (List Column)). kind_of (kinds_of_atoms x)
      (fill (moved_on (length prefix)) (out_of w.outs n)) ≡ type_in (columns_of u a) n)
      (first_prefix prefix w sel)
      (moved_kind prefix (atom_columns t w.atoms) (atom_columns t (atoms_of sel)) (out_of w.outs n)
      (ap is_some o) ∙ o ∙ sym c.1)
  put_kind prefix (a ∷ atoms) v (w ∷ sel) h (suc i) n k =
      subst (λ (x : List (List Column)). kind_of (kinds_of_atoms x)
      (put_from (length prefix + length w.atoms) sel i n)
      ≡ atom_kind (atom_columns u atoms) i n) (next_prefix prefix w sel)
      (subst (λ (j : ℕ). kind_of (kinds_of_atoms
      ((prefix ++ atom_columns t w.atoms) ++ atom_columns t (atoms_of sel)))
      (put_from j sel i n) ≡ atom_kind (atom_columns u atoms) i n) (next_length prefix w)
      (put_kind (prefix ++ atom_columns t w.atoms) atoms (λ b m. v b (inr m)) sel h.1 i n k))

  parts_typed : (prefix : List (List Column)) (atoms : List (List ℕ)) → AllTypedViews atoms
      → (sel : List PlainView) → Chosen sel (map vs atoms) → (c : Test)
      → In c (parts_from (length prefix) sel)
      → is_typed (kinds_of_atoms (prefix ++ atom_columns t (atoms_of sel))) c ≡ true
  parts_typed prefix [] v [] h c m = absurd m
  parts_typed prefix [] v (w ∷ sel) h c m = absurd h
  parts_typed prefix (a ∷ atoms) v [] h c m = absurd h
  parts_typed prefix (a ∷ atoms) v (w ∷ sel) h c m =
      elim (in_append c (map (fill_test (moved_on (length prefix))) w.parts)
      (parts_from (length prefix + length w.atoms) sel) m) [
        | inl i ↦ (
            let f = from_map (fill_test (moved_on (length prefix))) c w.parts i in
            subst (λ (x : List (List Column)). is_typed (kinds_of_atoms x) c ≡ true)
            (first_prefix prefix w sel)
            (subst (λ (x : Test). is_typed (kinds_of_atoms
            (prefix ++ (atom_columns t w.atoms ++ atom_columns t (atoms_of sel)))) x ≡ true) f.2
            (moved_typed prefix (atom_columns t w.atoms) (atom_columns t (atoms_of sel)) f.0
            ((v a (inl refl) w h.0).parts f.0 f.1)))
            )
        | inr i ↦
            subst (λ (x : List (List Column)). is_typed (kinds_of_atoms x) c ≡ true)
            (next_prefix prefix w sel)
            (parts_typed (prefix ++ atom_columns t w.atoms) atoms (λ b q. v b (inr q)) sel h.1 c
            (subst (λ (j : ℕ). In c (parts_from j sel)) (sym (next_length prefix w)) i))
      ]

  module _ (p : PlainPiece) (views : AllTypedViews p.atoms) (typed : IsTyped u p)
      (sel : List PlainView) (of : Chosen sel (map vs p.atoms)) where
    abbrev kinds_before : Kinds
    kinds_before = atom_kinds t (atoms_of sel)

    abbrev kinds_after : Kinds
    kinds_after = atom_kinds u p.atoms

    put_like : (w : Whose) (n : List ℕ) → Known kinds_after w n
        → kind_of kinds_before (put_for sel w n) ≡ kinds_after w n
    put_like w n k =
        known_atom (atom_columns u p.atoms) (λ (x : Whose).
        kind_of kinds_before (put_for sel x n) ≡ kinds_after x n) w n k
        (λ i h. put_kind [] p.atoms views sel of i n h
        ∙ sym (kinds_at (atom_columns u p.atoms) i n))

    same_kind : (e : Tree) → is_some (kind_of kinds_after e) ≡ true
        → kind_of kinds_before (fill (put_for sel) e) ≡ kind_of kinds_after e
    same_kind e h =
        kind_fill kinds_before (put_for sel) e
        ∙ kind_like (Known kinds_after) (λ w n. kind_of kinds_before (put_for sel w n)) kinds_after
        put_like e (known_within kinds_after e h)

    same_typed : (c : Test) → is_typed kinds_after c ≡ true
        → is_typed kinds_before (fill_test (put_for sel) c) ≡ true
    same_typed c h =
        typed_fill kinds_before (put_for sel) c
        ∙ typed_like (Known kinds_after) (λ w n. kind_of kinds_before (put_for sel w n)) kinds_after
        put_like c (test_known_within kinds_after c h)
        ∙ h

    same_names : (outs : List (List ℕ × Tree))
        → out_names (filled_outs (put_for sel) outs) ≡ out_names outs
    same_names [] = refl
    same_names (o ∷ outs) = ap (λ (x : List (List ℕ)). o.0 ∷ x) (same_names outs)

    same_types : (outs : List (List ℕ × Tree)) → HaveTypes kinds_after (out_trees outs)
        → typed_names kinds_before (filled_outs (put_for sel) outs) ≡ typed_names kinds_after outs
    same_types [] h = refl
    same_types (o ∷ outs) h =
        let e = same_kind o.1 (h o.1 (inl refl)) in
        let f = same_types outs (λ x m. h x (inr m)) in
        cc

    outs_typed : (outs : List (List ℕ × Tree)) → HaveTypes kinds_after (out_trees outs)
        → HaveTypes kinds_before (out_trees (filled_outs (put_for sel) outs))
    outs_typed [] h e m = absurd m
    outs_typed (o ∷ outs) h e (inl i) =
        subst (λ (x : Tree). is_some (kind_of kinds_before x) ≡ true) i
        (ap is_some (same_kind o.1 (h o.1 (inl refl))) ∙ h o.1 (inl refl))
    outs_typed (o ∷ outs) h e (inr m) = outs_typed outs (λ x q. h x (inr q)) e m

    there : AreThere t (atoms_of sel)
    there n m = let f = atom_from p.atoms sel of n m in (views f.0 f.2 f.1 f.3).there n f.4

    pub unfolded_typed : IsTyped t (unfolded p sel)
    unfolded_typed = record {
      there = there;
      cond = with_typed kinds_before (fill_test (put_for sel) p.cond) (parts_from 0 sel)
          (same_typed p.cond typed.cond) (parts_typed [] p.atoms views sel of);
      outs = outs_typed p.outs typed.outs;
      ascending = subst (Ascends bytes_cmp) (sym (same_names p.outs)) typed.ascending;
    }

    pub unfolded_outputs : output_types t (unfolded p sel) ≡ output_types u p
    unfolded_outputs = same_types p.outs typed.outs
