-- What a view of two tables has of a pair of rows: the cells, the parts and the types of a JOIN.
use Rattle.std.proofs.Common.{◌≡◌, ℕ, zero, suc, Bool, true, false, List, [], ◌∷◌, ◌++◌, map, refl}
use Rattle.std.proofs.Common.{sym, ap, subst, ◌∙◌, inl, inr}
use Rattle.std.specs.Prelude.{◌&&◌, ◌||◌, ◌⊎◌, not, cond, Option, Some, is_some, if◌then◌else◌}
use Rattle.std.specs.List.{filter, list_all}
use Rattle.std.proofs.lemmas.List.Folds.{list_all-append}
use Rattle.relations_spec.specs.Sets.{In}
use Rattle.relations_spec.proofs.SetLaws.{from_map, in_filter, from_filter, in_append}
use Rattle.prima_base.specs.declared.value.ColType.{ColType}
use Rattle.prima_base.specs.declared.value.ColType.TheVariants.{Int as INT, Text as TEXT}
use Rattle.prima_base.specs.Order.{value_eq}
use Rattle.prima_base.specs.Columns.{Column, names_of, AreColumns}
use Rattle.prima_base.specs.OrderLaws.{same_is}
use Rattle.schema_catalog.specs.Databases.{cell}
use Rattle.cond_expr.specs.declared.expr.Whose.{Whose}
use Rattle.cond_expr.specs.declared.expr.Whose.TheVariants.{Atom}
use Rattle.cond_expr.specs.Trees.{Tree, column, Test, for_atoms}
use Rattle.cond_expr.specs.Values.{Cells, over, value, truth}
use Rattle.cond_expr.specs.Kinds.{Kinds, kind_of, is_typed, same_kind, same_type}
use Rattle.cond_expr.proofs.TreeLaws.{truth_like}
use Rattle.cond_expr.proofs.AtomLaws.{truth_for_atoms}
use Rattle.cond_expr.proofs.KindLaws.{typed_fill}
use Rattle.smo_ops_spec.specs.OneRow.{Row, same, own_kinds, own_cells, meets}
use Rattle.smo_ops_spec.specs.Preconditions.{among, type_in}
use Rattle.smo_ops_spec.specs.Making.{joined_columns, agree, joined_value, joined_row}
use Rattle.smo_ops_spec.proofs.NameLaws.{same_turned, in_among, among_in, in_names}
use Rattle.smo_ops_spec.proofs.NameLaws.{own_type}
use Rattle.smo_ops_spec.proofs.TypeLaws.{own_atom}
use Rattle.smo_ops_spec.proofs.MadeRows.{from_in_order, column_named, one_kind, each_is, Joinable}
use Rattle.smo_ops_spec.proofs.MadeCells.{made_cell}
use Rattle.cond_expr.specs.AtomColumns.{kinds_of_atoms}
use Rattle.plain_answers_spec.specs.Choosing.{chosen_cell, chosen_cells}
use Rattle.cond_expr.specs.Parts.{parts_but_true as parts}
use Rattle.piece_ir_spec.specs.Views.{out_of}
use Rattle.piece_ir_spec.specs.OperatorViews.{common_names, second_names, from_second, in_both}
use Rattle.piece_ir_spec.specs.OperatorViews.{shown_in}
use Rattle.piece_ir_spec.proofs.KnownKinds.{Known, test_known_within, typed_like}
use Rattle.piece_ir_spec.proofs.AtomKinds.{atom_kind, kinds_at, known_atom, typed_named}
use Rattle.piece_ir_spec.proofs.OneTable.{alone_kinds}
use Rattle.piece_ir_spec.proofs.TestLaws.{part_typed, parts_hold}

-- a name that is among others is read from the second atom, and any other from the first
out_named : (names : List (List ℕ)) (n : List ℕ)
    → out_of (map from_second names) n ≡ (if among n names then column (Atom 1) n
    else column (Atom 0) n)
out_named [] n = refl
out_named (m ∷ names) n = step (same m n) refl (out_named names n)
  where
    step : (b : Bool) → same m n ≡ b → out_of (map from_second names) n
        ≡ (if among n names then column (Atom 1) n else column (Atom 0) n)
        → (if b then column (Atom 1) m else out_of (map from_second names) n)
        ≡ (if (same n m || among n names) then column (Atom 1) n else column (Atom 0) n)
    step true e more = ap (column (Atom 1)) (same_is m n e)
        ∙ ap (λ (b : Bool). if (b || among n names) then column (Atom 1) n else column (Atom 0) n)
        (sym (same_turned n m ∙ e))
    step false e more = more ∙ ap (λ (b : Bool). if (b || among n names) then column (Atom 1) n
        else column (Atom 0) n) (sym (same_turned n m ∙ e))

type_itself : (k : ColType) → same_type k k ≡ true
type_itself INT = refl
type_itself TEXT = refl

module _ (cs ds : List Column) where
  abbrev pub both_kinds : Kinds
  both_kinds = kinds_of_atoms (cs ∷ ds ∷ [])

  abbrev joined : List Column
  joined = joined_columns cs ds

  abbrev pub outs : List (List ℕ × Tree)
  outs = map from_second (second_names cs ds)

  abbrev pub shown_test : Test → Test
  shown_test c = shown_in outs c

  abbrev pub all_tests : Test → List Test
  all_tests c = map in_both (common_names cs ds) ++ parts (shown_test c)

  -- whose a column is
  pub of_first : (n : List ℕ) → among n (names_of cs) ≡ true → out_of outs n ≡ column (Atom 0) n
  of_first n e = out_named (second_names cs ds) n
      ∙ ap (λ (b : Bool). if b then column (Atom 1) n else column (Atom 0) n)
      (step (among n (second_names cs ds)) refl)
    where
      step : (b : Bool) → among n (second_names cs ds) ≡ b → among n (second_names cs ds) ≡ false
      step false q = q
      step true q =
          let h = (from_filter (λ (m : List ℕ). not (among m (names_of cs))) n (names_of ds)
          (among_in n (second_names cs ds) q)).1 in
          let k : not true ≡ true = ap not (sym e) ∙ h in
          absurd (cc)

  pub of_second : (n : List ℕ) → among n (names_of cs) ≡ false → among n (names_of ds) ≡ true
      → out_of outs n ≡ column (Atom 1) n
  of_second n e i = out_named (second_names cs ds) n
      ∙ ap (λ (b : Bool). if b then column (Atom 1) n else column (Atom 0) n)
      (in_among n (second_names cs ds) (in_filter (λ (m : List ℕ). not (among m (names_of cs))) n
      (names_of ds) (among_in n (names_of ds) i) (ap not e)))

  pub of_neither : (n : List ℕ) → among n (names_of ds) ≡ false → out_of outs n ≡ column (Atom 0) n
  of_neither n e = out_named (second_names cs ds) n
      ∙ ap (λ (b : Bool). if b then column (Atom 1) n else column (Atom 0) n)
      (step (among n (second_names cs ds)) refl)
    where
      step : (b : Bool) → among n (second_names cs ds) ≡ b → among n (second_names cs ds) ≡ false
      step false q = q
      step true q = absurd (let h = in_among n (names_of ds)
          (from_filter (λ (m : List ℕ). not (among m (names_of cs))) n (names_of ds)
          (among_in n (second_names cs ds) q)).0 in cc)

  -- each joined column is of one of the two
  pub of_either : (n : List ℕ) → In n (names_of joined) → among n (names_of cs) ≡ false
      → among n (names_of ds) ≡ true
  of_either n m e = from (column_named joined n m)
    where
      side : (d : Column) → d.0 ≡ n → In d cs ⊎ In d ds → among n (names_of ds) ≡ true
      side d q (inl i) = absurd (let h : among n (names_of cs) ≡ true =
          ap (λ (x : List ℕ). among x (names_of cs)) (sym q)
          ∙ in_among d.0 (names_of cs) (in_names cs d i) in cc)
      side d q (inr i) = ap (λ (x : List ℕ). among x (names_of ds)) (sym q)
          ∙ in_among d.0 (names_of ds) (in_names ds d i)

      from : (d : Column) × In d joined × (d.0 ≡ n) → among n (names_of ds) ≡ true
      from (d, i, q) = side d q (in_append d cs ds (from_in_order (cs ++ ds) d i))

  module _ (a b : Row) where
    abbrev pub both : Cells
    both = chosen_cells (cs ∷ ds ∷ []) (a ∷ b ∷ [])

    out_value : (n : List ℕ) → In n (names_of joined) → (t : Bool) → among n (names_of cs) ≡ t
        → value both (out_of outs n) ≡ (if t then cell cs a n else cell ds b n)
    out_value n m true e = ap (value both) (of_first n e)
    out_value n m false e = ap (value both) (of_second n e (of_either n m e))

    -- the joined row has in each column what the view has
    pub joined_cell : (n : List ℕ) → In n (names_of joined)
        → cell joined (joined_row cs ds a b) n ≡ value both (out_of outs n)
    joined_cell n m = made_cell joined (joined_value cs ds a b) n m
        ∙ sym (out_value n m (among n (names_of cs)) refl)

    -- the condition says of the pair what it says of the joined row
    abbrev IsAlike : Whose → List ℕ → Type 0
    IsAlike w n = over (λ i m. value both (out_of outs m)) w n
        ≡ own_cells joined (joined_row cs ds a b) w n

    alike : (w : Whose) (n : List ℕ) → Known (own_kinds joined) w n → IsAlike w n
    alike w n k = known_atom (joined ∷ []) (λ (x : Whose). IsAlike x n) w n
        (subst (λ (of : Kinds). Known of w n) (sym (alone_kinds joined)) k) at
      where
        at : (i : ℕ) → is_some (atom_kind (joined ∷ []) i n) ≡ true → IsAlike (Atom i) n
        at zero e = sym (joined_cell n (typed_named joined n e))
        at (suc i) e = absurd (cc)

    pub shown_met : (c : Test) → is_typed (own_kinds joined) c ≡ true
        → truth both (shown_test c) ≡ meets joined c (joined_row cs ds a b)
    shown_met c e =
        truth_for_atoms (chosen_cell (cs ∷ ds ∷ []) (a ∷ b ∷ [])) (λ i n. out_of outs n) c
        ∙ truth_like (Known (own_kinds joined)) (over (λ i m. value both (out_of outs m)))
        (own_cells joined (joined_row cs ds a b)) alike c
        (test_known_within (own_kinds joined) c e)

    -- the parts for the common columns say that the two agree
    common_met : (xs : List Column) → list_all (truth both)
        (map in_both (filter (λ n. among n (names_of ds)) (names_of xs)))
        ≡ list_all (λ (x : Column). not (among x.0 (names_of ds))
        || value_eq (cell cs a x.0) (cell ds b x.0)) xs
    common_met [] = refl
    common_met (x ∷ xs) = step (among x.0 (names_of ds)) (common_met xs)
      where
        step : (t : Bool)
            → list_all (truth both) (map in_both
            (filter (λ n. among n (names_of ds)) (names_of xs)))
            ≡ list_all (λ (x : Column). not (among x.0 (names_of ds))
            || value_eq (cell cs a x.0) (cell ds b x.0)) xs
            → list_all (truth both) (map in_both
            (cond t (x.0 ∷ filter (λ n. among n (names_of ds)) (names_of xs))
            (filter (λ n. among n (names_of ds)) (names_of xs))))
            ≡ ((not t || value_eq (cell cs a x.0) (cell ds b x.0))
            && list_all (λ (x : Column). not (among x.0 (names_of ds))
            || value_eq (cell cs a x.0) (cell ds b x.0)) xs)
        step true e = ap (λ (t : Bool). value_eq (cell cs a x.0) (cell ds b x.0) && t) e
        step false e = e

    -- all parts hold just where the two agree and the joined row meets the condition
    pub all_met : (c : Test) → is_typed (own_kinds joined) c ≡ true
        → list_all (truth both) (all_tests c)
        ≡ (agree cs ds a b && meets joined c (joined_row cs ds a b))
    all_met c e =
        list_all-append (truth both) (map in_both (common_names cs ds)) (parts (shown_test c))
        ∙ ap (λ (t : Bool). t && list_all (truth both) (parts (shown_test c))) (common_met cs)
        ∙ ap (λ (t : Bool). agree cs ds a b && t) (parts_hold both (shown_test c) ∙ shown_met c e)

  -- types
  module _ (types : (n : List ℕ) → type_in joined n
      ≡ (if among n (names_of cs) then type_in cs n else type_in ds n)) where
    out_kind : (n : List ℕ) → is_some (type_in joined n) ≡ true
        → kind_of both_kinds (out_of outs n) ≡ type_in joined n
    out_kind n e = step (among n (names_of cs)) refl (ap is_some (sym (types n)) ∙ e)
        ∙ sym (types n)
      where
        step : (t : Bool) → among n (names_of cs) ≡ t
            → is_some (if t then type_in cs n else type_in ds n) ≡ true
            → kind_of both_kinds (out_of outs n) ≡ (if t then type_in cs n else type_in ds n)
        step true q h = ap (kind_of both_kinds) (of_first n q) ∙ kinds_at (cs ∷ ds ∷ []) 0 n
        step false q h = ap (kind_of both_kinds)
            (of_second n q (in_among n (names_of ds) (typed_named ds n h)))
            ∙ kinds_at (cs ∷ ds ∷ []) 1 n

    pub out_typed : (n : List ℕ) (k : ColType) → type_in joined n ≡ Some k
        → kind_of both_kinds (out_of outs n) ≡ Some k
    out_typed n k e = out_kind n (ap is_some e) ∙ e

    like : (w : Whose) (n : List ℕ) → Known (own_kinds joined) w n
        → own_kinds joined w n ≡ kind_of both_kinds (for_atoms (λ i m. out_of outs m) w n)
    like w n k = known_atom (joined ∷ []) (λ (x : Whose).
        own_kinds joined x n ≡ kind_of both_kinds (for_atoms (λ i m. out_of outs m) x n)) w n
        (subst (λ (of : Kinds). Known of w n) (sym (alone_kinds joined)) k) at
      where
        at : (i : ℕ) → is_some (atom_kind (joined ∷ []) i n) ≡ true
            → own_kinds joined (Atom i) n ≡ kind_of both_kinds (out_of outs n)
        at zero e = own_atom joined 0 n refl ∙ sym (out_kind n e)
        at (suc i) e = absurd (cc)

    shown_typed : (c : Test) → is_typed (own_kinds joined) c ≡ true
        → is_typed both_kinds (shown_test c) ≡ true
    shown_typed c e =
        typed_fill both_kinds (for_atoms (λ i m. out_of outs m)) c
        ∙ sym (typed_like (Known (own_kinds joined)) (own_kinds joined)
        (λ w n. kind_of both_kinds (for_atoms (λ i m. out_of outs m) w n)) like c
        (test_known_within (own_kinds joined) c e)) ∙ e

    module _ (first : AreColumns cs) (second : AreColumns ds) (one : Joinable cs ds) where
      common_typed : (n : List ℕ) → (x : Column) × In x cs × (x.0 ≡ n) → (d : Column) × In d ds
          × (d.0 ≡ n) → same_kind (both_kinds (Atom 0) n) (both_kinds (Atom 1) n) ≡ true
      common_typed n (x, i, p) (d, j, q) =
          let f : type_in cs n ≡ Some x.1 = ap (type_in cs) (sym p) ∙ own_type cs x first i in
          let g : type_in ds n ≡ Some d.1 = ap (type_in ds) (sym q) ∙ own_type ds d second j in
          let k : x.1 ≡ d.1 = one_kind (type_in ds x.0) d.1 x.1 (ap (type_in ds) p ∙ g)
          (each_is _ cs x one i) in
          ap (λ (o : Option ColType). same_kind o (both_kinds (Atom 1) n))
          (kinds_at (cs ∷ ds ∷ []) 0 n ∙ f)
          ∙ ap (same_kind (Some x.1)) (kinds_at (cs ∷ ds ∷ []) 1 n ∙ g)
          ∙ ap (λ (l : ColType). same_type l d.1) k ∙ type_itself d.1

      in_both_typed : (n : List ℕ) → In n (common_names cs ds)
          → is_typed both_kinds (in_both n) ≡ true
      in_both_typed n m =
          let h = from_filter (λ (x : List ℕ). among x (names_of ds)) n (names_of cs) m in
          common_typed n (column_named cs n h.0) (column_named ds n (among_in n (names_of ds) h.1))

      -- each part has a type
      pub test_typed : (c : Test) → is_typed (own_kinds joined) c ≡ true → (t : Test)
          → In t (all_tests c) → is_typed both_kinds t ≡ true
      test_typed c e t m = elim (in_append t (map in_both (common_names cs ds))
          (parts (shown_test c)) m) [
            | inl i ↦ (let h = from_map in_both t (common_names cs ds) i in
                subst (λ (x : Test). is_typed both_kinds x ≡ true) h.2 (in_both_typed h.0 h.1))
            | inr i ↦ part_typed both_kinds (shown_test c) t (shown_typed c e) i
          ]
