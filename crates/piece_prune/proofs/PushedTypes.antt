-- The condition that is pushed to an atom has a type over the atom's own columns.
use Rattle.std.proofs.Common.{◌≡◌, ℕ, zero, suc, true, List, [], ◌∷◌, map, get_or, refl, sym, ap}
use Rattle.std.proofs.Common.{subst, ◌∙◌, inl, inr}
use Rattle.std.specs.Prelude.{◌==◌}
use Rattle.std.specs.List.{list_all}
use Rattle.std.proofs.lemmas.Bool.{and_parts, and_from, eqb-true, eq-eqb, cond-true}
use Rattle.relations_spec.specs.Sets.{In}
use Rattle.relations_spec.proofs.SetLaws.{from_map, from_filter}
use Rattle.prima_base.specs.Columns.{Column}
use Rattle.cond_expr.specs.declared.expr.ColRef.{ColRef}
use Rattle.cond_expr.specs.declared.expr.Whose.{Whose}
use Rattle.cond_expr.specs.declared.expr.Whose.TheVariants.{Free, Alias, Atom}
use Rattle.cond_expr.specs.Trees.{column, Test, fill_test}
use Rattle.cond_expr.specs.Seen.{tests_of}
use Rattle.cond_expr.specs.Faults.{test_references}
use Rattle.cond_expr.specs.Kinds.{Kinds, kind_of, is_typed, all_typed}
use Rattle.cond_expr.specs.Parts.{parts}
use Rattle.cond_expr.proofs.KindLaws.{typed_fill}
use Rattle.smo_ops_spec.specs.OneRow.{own_kinds}
use Rattle.smo_ops_spec.specs.Preconditions.{type_in}
use Rattle.smo_ops_spec.proofs.TypeLaws.{own_atom}
use Rattle.cond_expr.specs.AtomColumns.{kinds_of_atoms}
use Rattle.plain_answers_spec.specs.Naming.{is_to, is_atom}
use Rattle.plain_answers_spec.specs.Pushing.{are_own, own_parts, as_first, pushed_cond}
use Rattle.cond_expr.proofs.ReferenceLaws.{Each, test_within_each}
use Rattle.piece_ir_spec.proofs.AtomKinds.{atom_kind, kinds_at}
use Rattle.piece_ir_spec.proofs.KnownKinds.{typed_like}
use Rattle.cond_expr_dead.proofs.DeadLaws.{part_typed}

all_typed_from : (of : Kinds) (ts : List Test) → ((t : Test) → In t ts → is_typed of t ≡ true)
    → all_typed of (tests_of ts) ≡ true
all_typed_from of [] h = refl
all_typed_from of (t ∷ ts) h = and_from (is_typed of t) (all_typed of (tests_of ts))
    (h t (inl refl)) (all_typed_from of ts (λ u m. h u (inr m)))

abbrev IsTo : ℕ → Whose → List ℕ → Type 0
IsTo i w n = is_atom i w ≡ true

each_to : (i : ℕ) (rs : List ColRef) → list_all (is_to i) rs ≡ true → Each (IsTo i) rs
each_to i [] h r m = absurd m
each_to i (x ∷ rs) h r (inl e) = subst (λ (y : ColRef). is_atom i y.whose ≡ true) e
    (and_parts (is_to i x) (list_all (is_to i) rs) h).0
each_to i (x ∷ rs) h r (inr m) = each_to i rs (and_parts (is_to i x) (list_all (is_to i) rs) h).1 r
    m

all_to : (i : ℕ) (rs : List ColRef) → are_own i rs ≡ true → list_all (is_to i) rs ≡ true
all_to i [] h = absurd (cc)
all_to i (r ∷ rs) h = h

place_kind : (columns : List (List Column)) (i : ℕ) (n : List ℕ)
    → atom_kind columns i n ≡ type_in (get_or columns i []) n
place_kind [] i n = refl
place_kind (cs ∷ columns) zero n = refl
place_kind (cs ∷ columns) (suc i) n = place_kind columns i n

module _ (columns : List (List Column)) (i : ℕ) where
  abbrev own : Kinds
  own = own_kinds (get_or columns i [])

  like : (w : Whose) (n : List ℕ) → IsTo i w n
      → kind_of own (as_first i w n) ≡ kinds_of_atoms columns w n
  like Free n h = absurd (cc)
  like (Alias a) n h = absurd (cc)
  like (Atom j) n h =
      let q : i ≡ j = eqb-true i j h in
      ap (kind_of own) (cond-true (j == i) (column (Atom 0) n) (column (Atom j) n)
      (eq-eqb j i (sym q)))
      ∙ own_atom (get_or columns i []) 0 n refl
      ∙ sym (place_kind columns i n) ∙ sym (kinds_at columns i n)
      ∙ ap (λ (k : ℕ). kinds_of_atoms columns (Atom k) n) q

  one_typed : (t : Test) → are_own i (test_references t) ≡ true
      → is_typed (kinds_of_atoms columns) t ≡ true → is_typed own (fill_test (as_first i) t) ≡ true
  one_typed t o h =
      typed_fill own (as_first i) t
      ∙ typed_like (IsTo i) (λ w n. kind_of own (as_first i w n)) (kinds_of_atoms columns) like t
      (test_within_each (IsTo i) t (each_to i (test_references t)
      (all_to i (test_references t) o)))
      ∙ h

  pub pushed_typed : (c : Test) → is_typed (kinds_of_atoms columns) c ≡ true
      → is_typed own (pushed_cond i c) ≡ true
  pushed_typed c h = all_typed_from own (map (fill_test (as_first i)) (own_parts i c)) each
    where
      each : (t : Test) → In t (map (fill_test (as_first i)) (own_parts i c))
          → is_typed own t ≡ true
      each t m =
          let filled = from_map (fill_test (as_first i)) t (own_parts i c) m in
          let part = from_filter (λ u. are_own i (test_references u)) filled.0 (parts c) filled.1 in
          subst (λ (u : Test). is_typed own u ≡ true) filled.2
          (one_typed filled.0 part.1 (part_typed (kinds_of_atoms columns) c filled.0 h part.0))
