-- So it does of the rows alone that meet the pushed conditions.
use Rattle.std.proofs.Common.{◌≡◌, ◌+◌, ◌≤◌, ℕ, suc, true, false, List, [], ◌∷◌, ◌++◌, map, get_or}
use Rattle.std.proofs.Common.{refl, ap, subst, ◌∙◌, inl, inr, append-nil, arith}
use Rattle.std.specs.Prelude.{None, is_none}
use Rattle.std.specs.List.{filter}
use Rattle.std.specs.Option.{option_map}
use Rattle.std.specs.FinMap.{contains_key}
use Rattle.relations_spec.specs.Sets.{In}
use Rattle.relations_spec.proofs.SetLaws.{set_ascends}
use Rattle.prima_base.specs.Order.{bytes_cmp}
use Rattle.prima_base.specs.OrderLaws.{bytes_exact}
use Rattle.prima_base.specs.declared.refusal.Refusal.TheVariants.{NoTable, Ambiguous, WrongType}
use Rattle.prima_base.specs.Columns.{Column}
use Rattle.schema_catalog.specs.Tables.{Tables}
use Rattle.cond_expr.specs.declared.expr.ColRef.{ColRef}
use Rattle.cond_expr.specs.declared.expr.Whose.TheVariants.{Atom}
use Rattle.cond_expr.specs.declared.expr.Column.{Column as AtomColumn}
use Rattle.cond_expr.specs.Trees.{Tree, Test}
use Rattle.cond_expr.specs.Kinds.{kinds_of, is_typed}
use Rattle.cond_expr.specs.Faults.{first_unknown, first_of, test_untyped}
use Rattle.smo_ops_spec.specs.Effects.{columns_of}
use Rattle.smo_ops_spec.specs.First.{unless, where_so, first_refusal}
use Rattle.smo_ops_spec.specs.Preconditions.{among}
use Rattle.smo_ops_spec.specs.OneRow.{own_kinds}
use Rattle.smo_ops_spec.proofs.Firsts.{none_of_first, none_of_both, none_mapped, met}
use Rattle.cond_expr.specs.AtomColumns.{columns_at, atoms_from, kinds_of_atoms}
use Rattle.plain_answers_spec.specs.Branches.{Item, PlainBranch, item_columns}
use Rattle.plain_answers_spec.specs.Naming.{all_references, names_at, written_names, is_to}
use Rattle.plain_answers_spec.specs.Pushing.{pushed_cond, pushed_from, pushed_reads}
use Rattle.plain_answers_spec.proofs.NameLaws.{from_names_at}
use Rattle.plain_answers_spec.proofs.PushedParts.{is_pushed}
use Rattle.piece_ir_spec.proofs.TestLaws.{typed_test}
use Rattle.piece_prune.proofs.PushedTypes.{pushed_typed}
use Rattle.piece_ir_spec.specs.Reading.{AreQuestions, Suffices}
use Rattle.temporal_lang_spec.specs.Atoms.{branch_with_atoms, branches_with_atoms, sources_of}
use Rattle.temporal_lang_spec.specs.Atoms.{atom_kinds}
use Rattle.temporal_lang_spec.specs.Checking.{items_after, item_tests, branch_references}
use Rattle.temporal_lang_spec.specs.Checking.{branch_names}
use Rattle.temporal_lang_spec.specs.Checking.{names_tests, reference_test, trees_types}
use Rattle.temporal_lang_spec.specs.Checking.{outputs_nodes}
use Rattle.temporal_lang_spec.specs.Checking.{branch_types, branch_nodes, types_from}
use Rattle.temporal_lang_spec.specs.Resolved.{AllKnown}
use Rattle.temporal_lang_spec.proofs.BranchLaws.{all_known}
use Rattle.query_pieces_spec.proofs.NamedColumns.{known_each, in_first, in_later}

module _ (tables : Tables) (outs : List Tree) (c : Test) where
  abbrev named : List ColRef
  named = all_references outs c

  -- what is named of each atom from this one on names something of it
  abbrev NameSome : ℕ → List Item → Type 0
  NameSome i from = (j : ℕ) → i ≤ j → (n : List ℕ) → In n (names_at j named)
      → is_none (kinds_of (atoms_from i (item_columns tables from)) (Atom j) n) ≡ false

  -- what is pushed to each of them has a type over its own columns
  abbrev HaveTypes : ℕ → List Item → Type 0
  HaveTypes i from = (j : ℕ) → is_typed (own_kinds (get_or (item_columns tables from) j []))
      (pushed_cond (i + j) c) ≡ true

  first_typed : (i : ℕ) (cs : List Column) → is_typed (own_kinds cs) (pushed_cond (i + 0) c) ≡ true
      → is_typed (kinds_of_atoms (cs ∷ [])) (pushed_cond i c) ≡ true
  first_typed i cs h =
      let e : i + 0 ≡ i = omega arith in
      ap (λ (xs : List AtomColumn). is_typed (kinds_of xs) (pushed_cond i c))
      (append-nil (columns_at 0 cs))
      ∙ subst (λ (k : ℕ). is_typed (own_kinds cs) (pushed_cond k c) ≡ true) e h

  later_typed : (i : ℕ) (x : Item) (from : List Item) → HaveTypes i (x ∷ from)
      → HaveTypes (i + 1) from
  later_typed i x from h j =
      let e : i + suc j ≡ (i + 1) + j = omega arith in
      subst (λ (k : ℕ). is_typed (own_kinds (get_or (item_columns tables from) j []))
      (pushed_cond k c)
      ≡ true) e (h (suc j))

  are_questions : (i : ℕ) (before : List (List ℕ)) (from : List Item)
      → first_refusal (items_after tables before from) ≡ None → NameSome i from → HaveTypes i from
      → AreQuestions tables from (pushed_from i from outs c)
  are_questions i before [] fine some typed = tt
  are_questions i before (x ∷ from) fine some typed =
      let a = none_of_first (unless (contains_key tables x.0) (NoTable x.0))
      (where_so (among x.1 before) (Ambiguous x.1)
      ∷ items_after tables (before ++ x.1 ∷ []) from) fine in
      let b = none_of_first (where_so (among x.1 before) (Ambiguous x.1))
      (items_after tables (before ++ x.1 ∷ []) from) a.1 in (
        record {
          there = met (contains_key tables x.0) (NoTable x.0) a.0;
          cond = first_typed i (columns_of tables x.0) (typed 0);
          columns = λ n m. in_first i n (columns_of tables x.0) (item_columns tables from)
              (some i (omega arith) n m);
          ascending = set_ascends bytes_cmp bytes_exact (written_names (filter (is_to i) named));
        },
        are_questions (i + 1) (before ++ x.1 ∷ []) from b.1
            (λ j l n m. in_later i j (omega (arith, l)) n (columns_of tables x.0)
            (item_columns tables from) (some j (omega (arith, l)) n m))
            (later_typed i x from typed),
      )

module _ (tables : Tables) (x : PlainBranch) where
  abbrev own : PlainBranch
  own = branch_with_atoms tables x

  abbrev refs : List ColRef
  refs = branch_references (branch_with_atoms tables x)

  -- a branch whose names are those of tables and of columns, and whose condition has a type
  one_suffices : first_refusal (branch_names tables x) ≡ None
      → first_unknown (atom_kinds tables x.from) refs ≡ None
      → is_typed (atom_kinds tables x.from) own.cond ≡ true
      → Suffices tables (pushed_reads own) own
  one_suffices fine known typed = record {
    many = (is_pushed own).0;
    asked = are_questions tables own.outs own.cond 0 [] x.from
        (none_of_both (item_tests tables x.from)
        (map (reference_test (sources_of tables x.from)) (branch_references x)) fine).0
        (λ j l n m. known_each (atom_kinds tables x.from) refs known
        (record { whose = Atom j; name = n }) (from_names_at j refs n m))
        (λ j. (let e : j ≡ 0 + j = omega arith in
        subst (λ (k : ℕ). is_typed (own_kinds (get_or (item_columns tables x.from) j []))
        (pushed_cond k own.cond) ≡ true) e (pushed_typed (item_columns tables x.from) j own.cond
        typed)));
    enough = (is_pushed own).1;
  }

module _ (tables : Tables) where
  -- a branch none of whose nodes is without a type
  one_typed : (at : ℕ) (x : PlainBranch) → first_refusal
      (branch_types (atom_kinds tables x.from) at x) ≡ None
      → is_typed (atom_kinds tables x.from) x.cond ≡ true
  one_typed at x e =
      typed_test (atom_kinds tables x.from) 0 x.cond
      (none_mapped (λ (place : ℕ). WrongType (at + outputs_nodes x.outs + place))
      (first_of (test_untyped (atom_kinds tables x.from) 0 x.cond))
      (none_of_first (option_map (λ (place : ℕ). WrongType (at + outputs_nodes x.outs + place))
      (first_of (test_untyped (atom_kinds tables x.from) 0 x.cond))) []
      (none_of_both (trees_types (atom_kinds tables x.from) at x.outs)
      (option_map (λ (place : ℕ). WrongType (at + outputs_nodes x.outs + place))
      (first_of (test_untyped (atom_kinds tables x.from) 0 x.cond)) ∷ []) e).1).0)

  abbrev AreTyped : List PlainBranch → Type 0
  AreTyped branches = (b : PlainBranch) → In b branches
      → is_typed (atom_kinds tables b.from) b.cond ≡ true

  each_typed : (at : ℕ) (branches : List PlainBranch)
      → first_refusal (types_from tables at branches) ≡ None → AreTyped branches
  each_typed at [] e b m = absurd m
  each_typed at (x ∷ branches) e b (inl s) =
      subst (λ (y : PlainBranch). is_typed (atom_kinds tables y.from) y.cond ≡ true) s
      (one_typed at x (none_of_both (branch_types (atom_kinds tables x.from) at x)
      (types_from tables (at + branch_nodes x) branches) e).0)
  each_typed at (x ∷ branches) e b (inr m) =
      each_typed (at + branch_nodes x) branches
      (none_of_both (branch_types (atom_kinds tables x.from) at x)
      (types_from tables (at + branch_nodes x) branches) e).1 b m

  each_suffices : (branches : List PlainBranch) → first_refusal (names_tests tables branches) ≡ None
      → AllKnown tables (branches_with_atoms tables branches)
      → AreTyped (branches_with_atoms tables branches) → (b : PlainBranch)
      → In b (branches_with_atoms tables branches) → Suffices tables (pushed_reads b) b
  each_suffices [] fine known typed b m = absurd m
  each_suffices (x ∷ branches) fine known typed b (inr m) =
      each_suffices branches (none_of_both (branch_names tables x) (names_tests tables branches)
      fine).1 known.1 (λ y k. typed y (inr k)) b m
  each_suffices (x ∷ branches) fine known typed b (inl e) =
      subst (λ (c : PlainBranch). Suffices tables (pushed_reads c) c) e
      (one_suffices tables x (none_of_both (branch_names tables x) (names_tests tables branches)
      fine).0 known.0 (typed (branch_with_atoms tables x) (inl refl)))

  pub pushed_suffices : (branches : List PlainBranch)
      → first_refusal (names_tests tables branches) ≡ None
      → first_refusal (types_from tables 0 (branches_with_atoms tables branches)) ≡ None
      → (b : PlainBranch) → In b (branches_with_atoms tables branches)
      → Suffices tables (pushed_reads b) b
  pushed_suffices branches fine types b m =
      each_suffices branches fine (all_known tables branches fine)
      (each_typed 0 (branches_with_atoms tables branches) types) b m
