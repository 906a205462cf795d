-- An accepted query asks questions of its tables, which are enough for its branches.
use Rattle.std.proofs.Common.{◌≡◌, ◌+◌, ◌≤◌, ℕ, false, List, [], ◌∷◌, ◌++◌, map, refl, subst, inl}
use Rattle.std.proofs.Common.{inr, arith}
use Rattle.std.specs.Prelude.{None, is_none}
use Rattle.std.specs.List.{filter}
use Rattle.std.specs.FinMap.{contains_key}
use Rattle.relations_spec.specs.Sets.{In}
use Rattle.relations_spec.proofs.SetLaws.{set_ascends}
use Rattle.prima_base.specs.Order.{bytes_cmp}
use Rattle.prima_base.specs.OrderLaws.{bytes_exact}
use Rattle.prima_base.specs.declared.refusal.Refusal.TheVariants.{NoTable, Ambiguous}
use Rattle.schema_catalog.specs.Tables.{Tables}
use Rattle.cond_expr.specs.declared.expr.ColRef.{ColRef}
use Rattle.cond_expr.specs.declared.expr.Whose.TheVariants.{Atom}
use Rattle.cond_expr.specs.Kinds.{kinds_of}
use Rattle.cond_expr.specs.Faults.{first_unknown}
use Rattle.smo_ops_spec.specs.Effects.{columns_of}
use Rattle.smo_ops_spec.specs.First.{unless, where_so, first_refusal}
use Rattle.smo_ops_spec.specs.Preconditions.{among}
use Rattle.smo_ops_spec.proofs.Firsts.{none_of_first, none_of_both, met}
use Rattle.cond_expr.specs.AtomColumns.{atoms_from}
use Rattle.plain_answers_spec.specs.Branches.{Item, PlainBranch, item_columns}
use Rattle.plain_answers_spec.specs.Naming.{names_from, names_at, written_names, is_to}
use Rattle.plain_answers_spec.specs.Reading.{needed_reads, whole_rows}
use Rattle.plain_answers_spec.proofs.NameLaws.{from_names_at}
use Rattle.plain_answers_spec.proofs.ReadLaws.{is_needed}
use Rattle.piece_ir_spec.specs.Reading.{AreQuestions, Suffices}
use Rattle.temporal_lang_spec.specs.Atoms.{branch_with_atoms, branches_with_atoms, sources_of}
use Rattle.temporal_lang_spec.specs.Atoms.{atom_kinds}
use Rattle.temporal_lang_spec.specs.Checking.{items_after, item_tests, branch_references}
use Rattle.temporal_lang_spec.specs.Checking.{branch_names}
use Rattle.temporal_lang_spec.specs.Checking.{names_tests, reference_test}
use Rattle.temporal_lang_spec.specs.Resolved.{AllKnown}
use Rattle.temporal_lang_spec.proofs.BranchLaws.{all_known}
use Rattle.query_pieces_spec.proofs.NamedColumns.{known_each, in_first, in_later}

module _ (tables : Tables) (refs : List ColRef) where
  -- what is named of each atom from this one on names something of it
  abbrev NameSome : ℕ → List Item → Type 0
  NameSome i from = (j : ℕ) → i ≤ j → (n : List ℕ) → In n (names_at j refs)
      → is_none (kinds_of (atoms_from i (item_columns tables from)) (Atom j) n) ≡ false

  are_questions : (i : ℕ) (before : List (List ℕ)) (from : List Item)
      → first_refusal (items_after tables before from) ≡ None → NameSome i from
      → AreQuestions tables from (whole_rows (names_from i from refs))
  are_questions i before [] named some = tt
  are_questions i before (x ∷ from) named some =
      let a = none_of_first (unless (contains_key tables x.0) (NoTable x.0))
      (where_so (among x.1 before) (Ambiguous x.1)
      ∷ items_after tables (before ++ x.1 ∷ []) from) named in
      let b = none_of_first (where_so (among x.1 before) (Ambiguous x.1))
      (items_after tables (before ++ x.1 ∷ []) from) a.1 in (
        record {
          there = met (contains_key tables x.0) (NoTable x.0) a.0;
          cond = refl;
          columns = λ n m. in_first i n (columns_of tables x.0) (item_columns tables from)
              (some i (omega arith) n m);
          ascending = set_ascends bytes_cmp bytes_exact (written_names (filter (is_to i) refs));
        },
        are_questions (i + 1) (before ++ x.1 ∷ []) from b.1
            (λ j l n m. in_later i j (omega (arith, l)) n (columns_of tables x.0)
            (item_columns tables from) (some j (omega (arith, l)) n m)),
      )

module _ (tables : Tables) (x : PlainBranch) where
  abbrev own : PlainBranch
  own = branch_with_atoms tables x

  abbrev refs : List ColRef
  refs = branch_references (branch_with_atoms tables x)

  -- a branch whose names are those of tables and of columns
  one_suffices : first_refusal (branch_names tables x) ≡ None
      → first_unknown (atom_kinds tables x.from) refs ≡ None
      → Suffices tables (needed_reads own) own
  one_suffices named known = record {
    many = (is_needed own).0;
    asked = are_questions tables refs 0 [] x.from
        (none_of_both (item_tests tables x.from)
        (map (reference_test (sources_of tables x.from)) (branch_references x)) named).0
        (λ j l n m. known_each (atom_kinds tables x.from) refs known
        (record { whose = Atom j; name = n }) (from_names_at j refs n m));
    enough = (is_needed own).1;
  }

module _ (tables : Tables) where
  each_suffices : (branches : List PlainBranch) → first_refusal (names_tests tables branches) ≡ None
      → AllKnown tables (branches_with_atoms tables branches)
      → (b : PlainBranch) → In b (branches_with_atoms tables branches)
      → Suffices tables (needed_reads b) b
  each_suffices [] named known b m = absurd m
  each_suffices (x ∷ branches) named known b (inr m) =
      each_suffices branches (none_of_both (branch_names tables x) (names_tests tables branches)
      named).1 known.1 b m
  each_suffices (x ∷ branches) named known b (inl e) =
      subst (λ (c : PlainBranch). Suffices tables (needed_reads c) c) e
      (one_suffices tables x (none_of_both (branch_names tables x) (names_tests tables branches)
      named).0 known.0)

  pub suffices : (branches : List PlainBranch) → first_refusal (names_tests tables branches) ≡ None
      → (b : PlainBranch) → In b (branches_with_atoms tables branches)
      → Suffices tables (needed_reads b) b
  suffices branches named b m = each_suffices branches named (all_known tables branches named) b m
