-- Each accepted command can be written: its counts fit their fields, its trees are at most 32 deep,
-- and its references are to atom 0.
use Rattle.std.proofs.Common.{◌≡◌, ℕ, suc, ◌+◌, ◌≤◌, true, false, cond, not, ◌==◌, eqb-true, nat_le}
use Rattle.std.proofs.Common.{nat_lt, List, [], ◌∷◌, ◌++◌, length, take, refl, sym, ap, ◌∙◌, subst}
use Rattle.std.proofs.Common.{arith}
use Rattle.std.specs.Prelude.{Option, Some, None, is_none}
use Rattle.std.specs.List.{flat_map, AllByRecursion}
use Rattle.std.specs.Option.{option_map, unwrap_or}
use Rattle.std.specs.FinMap.{get}
use Rattle.std.proofs.lemmas.Bool.{leb-true}
use Rattle.std.proofs.lemmas.List.{take_all}
use Rattle.prima_base.specs.declared.refusal.What.TheVariants.{Nodes, Depth, Parts, Changes}
use Rattle.prima_base.specs.declared.refusal.What.TheVariants.{Inverse, Versions}
use Rattle.prima_base.specs.declared.refusal.What.TheVariants.{Columns as COLUMNS}
use Rattle.prima_base.specs.declared.refusal.OpRefusal.TheVariants as op_refusal
use Rattle.prima_base.specs.declared.refusal.Refusal.TheVariants as refusal
use Rattle.prima_base.specs.Columns.{Column, names_of, AreColumns}
use Rattle.prima_base.specs.Limits.{max_versions}
use Rattle.schema_catalog.specs.Tables.{Tables}
use Rattle.cond_expr.specs.declared.expr.ColRef.{ColRef}
use Rattle.cond_expr.specs.declared.expr.Column.{Column as AtomColumn}
use Rattle.cond_expr.specs.declared.expr.Whose.{Whose}
use Rattle.cond_expr.specs.declared.expr.Whose.TheVariants.{Free, Alias, Atom}
use Rattle.cond_expr.specs.Trees.{Tree, column, constant, length_of, joined, choose, Trees}
use Rattle.cond_expr.specs.Trees.{no_trees, a_tree, Test, never, always, compared, all_of, some_of}
use Rattle.cond_expr.specs.Trees.{fails, Tests, no_tests, a_test}
use Rattle.cond_expr.specs.Sizes.{nodes_of, trees_nodes, test_nodes, tests_nodes, depth_of}
use Rattle.cond_expr.specs.Sizes.{test_depth, longest_of, trees_longest, test_longest}
use Rattle.cond_expr.specs.Sizes.{tests_longest}
use Rattle.cond_expr.specs.Rows.{names, same}
use Rattle.cond_expr.specs.Faults.{references, trees_references, test_references, tests_references}
use Rattle.cond_expr.specs.Faults.{first_unknown}
use Rattle.smo_ops_spec.specs.OneRow.{own_kinds}
use Rattle.smo_ops_spec.specs.First.{unless, where_so, first_refusal}
use Rattle.smo_ops_spec.specs.Counts.{Excess, at_most, tree_counts, test_counts, set_counts}
use Rattle.smo_ops_spec.specs.Counts.{change_counts, operator_counts, evolution_counts}
use Rattle.smo_ops_spec.specs.Counts.{first_excess}
use Rattle.smo_ops_types.specs.Changes.{PlainChange, insertion, deletion, update, table_of}
use Rattle.smo_ops_types.specs.Commands.{PlainBody, changing, evolving, PlainCommand}
use Rattle.smo_ops_spec.specs.Effects.{columns_of}
use Rattle.smo_ops_spec.specs.Making.{joined_columns}
use Rattle.smo_ops_spec.specs.Preconditions.{among, again_after, first_again, first_not_among}
use Rattle.smo_ops_spec.specs.Preconditions.{test_known_in}
use Rattle.smo_ops_spec.specs.After.{op_fault, IsValid}
use Rattle.smo_ops_spec.specs.Evolutions.{schema_after_each, evolution_fault}
use Rattle.smo_ops_spec.specs.Inverses.{way_back, inverse_tests}
use Rattle.smo_ops_spec.specs.Checks.{pair_names, names_after, name_faults, missing_fault}
use Rattle.smo_ops_spec.specs.Checks.{cell_faults, reference_fault, set_references, set_faults}
use Rattle.smo_ops_spec.specs.Checks.{sets_nodes, test_fault, table_fault, tests_after}
use Rattle.smo_ops_spec.specs.Checks.{change_tests}
use Rattle.smo_ops_spec.specs.Checks.{change_nodes, changes_tests}
use Rattle.smo_ops_spec.specs.Past.{Past, newest_tables}
use Rattle.smo_ops_spec.specs.Accepts.{operator_refusal, count_fault, stamp_fault}
use Rattle.smo_ops_spec.specs.Accepts.{body_tests, command_fault}
use Rattle.smo_ops_types.specs.Operators.{Operator, nop, create_table, drop_table, rename_table}
use Rattle.smo_ops_types.specs.Operators.{copy_table, merge_table, partition_table, decompose_table}
use Rattle.smo_ops_types.specs.Operators.{join_table, add_column, drop_column, rename_column}
use Rattle.smo_ops_spec.proofs.Firsts.{none_of_both, none_of_first, met, none_mapped, first_alone}
use Rattle.smo_ops_spec.proofs.Firsts.{first_later}
use Rattle.smo_ops_spec.proofs.FewNames.{few_names}
use Rattle.smo_ops_spec.proofs.SmallTrees.{fits}
use Rattle.smo_ops_spec.proofs.CountedOperators.{counted_length}
use Rattle.smo_ops_spec.proofs.NextSchemas.{all_preconditions}
use Rattle.smo_ops_spec.proofs.MemberLaws.{all_accepted, each_is_valid}
use Rattle.smo_ops_spec.proofs.MetPreconditions.{create_met, partition_met, decompose_met}
use Rattle.smo_ops_spec.proofs.MetPreconditions.{join_met, add_met}
use Rattle.command_codec_spec.specs.Encoding.{number_of}
use Rattle.command_codec_spec.specs.Valid.{TreeFits, TreesFit, TestFits, TestsFit, IsWritableTree}
use Rattle.command_codec_spec.specs.Valid.{IsWritableTest, IsWritableOperator, IsWritableChange}
use Rattle.command_codec_spec.specs.Valid.{HasOneMember, IsWritableEvolution, IsWritableBody}
use Rattle.command_codec_spec.specs.Valid.{IsWritable, HaveOneMember}
use Rattle.command_codec_spec.proofs.Correctness.{by_test, true_false}
use Rattle.command_codec_spec.proofs.Numbers.{of_both}

-- ---- references

abbrev IsOwn : ColRef → Type 0
IsOwn r = r.whose ≡ Atom 0

named_atom : (w : Whose) (n : List ℕ) (c : AtomColumn) → c.atom ≡ 0 → names w n c ≡ true
    → w ≡ Atom 0
named_atom Free n c z e = true_false (sym e)
named_atom (Alias a) n c z e = true_false (sym e)
named_atom (Atom i) n c z e = ap Atom (sym (sym z
    ∙ eqb-true c.atom i (of_both (c.atom == i) (same n c.name) e).0))

own_atom : (columns : List Column) (w : Whose) (n : List ℕ)
    → is_none (own_kinds columns w n) ≡ false → w ≡ Atom 0
own_atom [] w n e = true_false e
own_atom (c ∷ columns) w n e = by_test (names w n one) (λ t. named_atom w n one refl t)
    (λ f. own_atom columns w n (ap (λ b. is_none (cond b (Some c.1) (own_kinds columns w n)))
    (sym f) ∙ e))
  where
    one : AtomColumn
    one = record { atom = 0; name = c.0; kind = c.1 }

-- where each reference names something, each is to atom 0
own_references : (columns : List Column) (rs : List ColRef)
    → first_unknown (own_kinds columns) rs ≡ None → AllByRecursion IsOwn rs
own_references columns [] e = tt
own_references columns (r ∷ rs) e = by_test (is_none (own_kinds columns r.whose r.name))
    (λ t. absurd (let z : Some r.name ≡ None =
    sym (ap (λ b. cond b (Some r.name) (first_unknown (own_kinds columns) rs)) t) ∙ e in cc))
    (λ f. (
      own_atom columns r.whose r.name f,
      own_references columns rs (sym (ap (λ b.
          cond b (Some r.name) (first_unknown (own_kinds columns) rs)) f) ∙ e),
    ))

parted : {A : Type 0} (P : A → Type 0) (a b : List A) → AllByRecursion P (a ++ b)
    → AllByRecursion P a × AllByRecursion P b
parted P [] b h = (tt, h)
parted P (x ∷ a) b h = let r = parted P a b h.1 in ((h.0, r.0), r.1)

-- ---- trees whose counts are small

one_node : (c : Test) → 1 ≤ test_nodes c
one_node never = omega arith
one_node always = omega arith
one_node (compared o a b) = omega arith
one_node (all_of cs) = omega arith
one_node (some_of cs) = omega arith
one_node (fails c) = omega arith

no_more_tests : (cs : Tests) → number_of cs ≤ tests_nodes cs
no_more_tests no_tests = omega arith
no_more_tests (a_test c cs) = let h = no_more_tests cs in let k = one_node c in omega (arith, h, k)

mutual
  tree_fits : (t : Tree) → AllByRecursion IsOwn (references t) → longest_of t ≤ 8 → nodes_of t ≤ 256
      → TreeFits t
  tree_fits (column w n) h l m = h.0
  tree_fits (constant v) h l m = tt
  tree_fits (length_of t) h l m = tree_fits t h l (omega (arith, m))
  tree_fits (joined ts) h l m = (
    omega (arith, l),
    trees_fit ts h (omega (arith, l)) (omega (arith, m)),
  )
  tree_fits (choose c a b) h l m =
      let r = parted IsOwn (test_references c) (references a ++ references b) h in
      let s = parted IsOwn (references a) (references b) r.1 in (
        test_fits c r.0 (omega (arith, l)) (omega (arith, m)),
        tree_fits a s.0 (omega (arith, l)) (omega (arith, m)),
        tree_fits b s.1 (omega (arith, l)) (omega (arith, m)),
      )

  trees_fit : (ts : Trees) → AllByRecursion IsOwn (trees_references ts) → trees_longest ts ≤ 8
      → trees_nodes ts ≤ 256 → TreesFit ts
  trees_fit no_trees h l m = tt
  trees_fit (a_tree t ts) h l m =
      let r = parted IsOwn (references t) (trees_references ts) h in (
        tree_fits t r.0 (omega (arith, l)) (omega (arith, m)),
        trees_fit ts r.1 (omega (arith, l)) (omega (arith, m)),
      )

  test_fits : (c : Test) → AllByRecursion IsOwn (test_references c) → test_longest c ≤ 8
      → test_nodes c ≤ 256 → TestFits c
  test_fits never h l m = tt
  test_fits always h l m = tt
  test_fits (compared o a b) h l m =
      let r = parted IsOwn (references a) (references b) h in (
        tree_fits a r.0 (omega (arith, l)) (omega (arith, m)),
        tree_fits b r.1 (omega (arith, l)) (omega (arith, m)),
      )
  test_fits (all_of cs) h l m = (
    (let k = no_more_tests cs in omega (arith, k, m)),
    tests_fit cs h l (omega (arith, m)),
  )
  test_fits (some_of cs) h l m = (
    (let k = no_more_tests cs in omega (arith, k, m)),
    tests_fit cs h l (omega (arith, m)),
  )
  test_fits (fails c) h l m = test_fits c h l (omega (arith, m))

  tests_fit : (cs : Tests) → AllByRecursion IsOwn (tests_references cs) → tests_longest cs ≤ 8
      → tests_nodes cs ≤ 256 → TestsFit cs
  tests_fit no_tests h l m = tt
  tests_fit (a_test c cs) h l m =
      let r = parted IsOwn (test_references c) (tests_references cs) h in (
        test_fits c r.0 (omega (arith, l)) (omega (arith, m)),
        tests_fit cs r.1 (omega (arith, l)) (omega (arith, m)),
      )

-- what the counts of a tree tell
module _ (t : Tree) (e : first_refusal (tree_counts t) ≡ None) where
  tree_counted : (nodes_of t ≤ 256) × (depth_of t ≤ 32) × (longest_of t ≤ 8)
  tree_counted =
      let first = none_of_first (at_most Nodes 256 (nodes_of t))
      (at_most Depth 32 (depth_of t) ∷ at_most Parts 8 (longest_of t) ∷ []) e in
      let second = none_of_first (at_most Depth 32 (depth_of t))
      (at_most Parts 8 (longest_of t) ∷ []) first.1 in
      let third = none_of_first (at_most Parts 8 (longest_of t)) [] second.1 in (
        fits Nodes 256 (nodes_of t) first.0,
        fits Depth 32 (depth_of t) second.0,
        fits Parts 8 (longest_of t) third.0,
      )

  writable_tree : AllByRecursion IsOwn (references t) → IsWritableTree t
  writable_tree h = let k = tree_counted in (tree_fits t h k.2 k.0, k.1)

module _ (c : Test) (e : first_refusal (test_counts c) ≡ None) where
  test_counted : (test_nodes c ≤ 256) × (test_depth c ≤ 32) × (test_longest c ≤ 8)
  test_counted =
      let first = none_of_first (at_most Nodes 256 (test_nodes c))
      (at_most Depth 32 (test_depth c) ∷ at_most Parts 8 (test_longest c) ∷ []) e in
      let second = none_of_first (at_most Depth 32 (test_depth c))
      (at_most Parts 8 (test_longest c) ∷ []) first.1 in
      let third = none_of_first (at_most Parts 8 (test_longest c)) [] second.1 in (
        fits Nodes 256 (test_nodes c) first.0,
        fits Depth 32 (test_depth c) second.0,
        fits Parts 8 (test_longest c) third.0,
      )

  writable_test : AllByRecursion IsOwn (test_references c) → IsWritableTest c
  writable_test h = let k = test_counted in (test_fits c h k.2 k.0, k.1)

-- ---- names that stand once and are known are no more than the columns

distinct_known : (t : List ℕ) (columns : List Column) (before names : List (List ℕ))
    → again_after before names ≡ None → first_not_among (names_of columns) names ≡ None
    → first_refusal (names_after t columns before names) ≡ None
distinct_known t columns before [] e f = refl
distinct_known t columns before (n ∷ names) e f = by_test (among n before)
    (λ b. absurd (let z : Some n ≡ None = sym
    (ap (λ x. cond x (Some n) (again_after (before ++ n ∷ []) names)) b) ∙ e in cc))
    (λ b. by_test (among n (names_of columns))
    (λ c. first_later (where_so (among n before) (refusal.ColumnExists t n)) _
    (ap (λ x. where_so x (refusal.ColumnExists t n)) b)
    ∙ first_later (unless (among n (names_of columns)) (refusal.NoColumn n)) _
    (ap (λ x. unless x (refusal.NoColumn n)) c)
    ∙ distinct_known t columns (before ++ n ∷ []) names
    (sym (ap (λ x. cond x (Some n) (again_after (before ++ n ∷ []) names)) b) ∙ e)
    (sym (ap (λ x. cond (not x) (Some n) (first_not_among (names_of columns) names)) c) ∙ f))
    (λ c. absurd (let z : Some n ≡ None = sym
    (ap (λ x. cond (not x) (Some n) (first_not_among (names_of columns) names)) c) ∙ f in cc)))

no_more : (columns : List Column) (names : List (List ℕ)) → AreColumns columns
    → first_again names ≡ None → first_not_among (names_of columns) names ≡ None
    → length names ≤ length columns
no_more columns names a e f = few_names [] columns names a (distinct_known [] columns [] names e f)

-- each of two lists is known where both are
known_first : (others a b : List (List ℕ)) → first_not_among others (a ++ b) ≡ None
    → (first_not_among others a ≡ None) × (first_not_among others b ≡ None)
known_first others [] b e = (refl, e)
known_first others (n ∷ a) b e = by_test (among n others)
    (λ t.
    let r = known_first others a b (sym (ap (λ x.
    cond (not x) (Some n) (first_not_among others (a ++ b))) t) ∙ e) in
    (ap (λ x. cond (not x) (Some n) (first_not_among others a)) t ∙ r.0, r.1))
    (λ f. absurd (let z : Some n ≡ None = sym
    (ap (λ x. cond (not x) (Some n) (first_not_among others (a ++ b))) f) ∙ e in cc))

-- ---- operators

module _ (tables : Tables) (valid : IsValid tables) where
  -- the columns of a table are valid; those of no table are none
  valid_columns : (r : List ℕ) → AreColumns (columns_of tables r)
      × (length (columns_of tables r) ≤ 32)
  valid_columns r = step (get tables r) refl
    where
      step : (o : Option (List Column)) → get tables r ≡ o → AreColumns (unwrap_or o [])
          × (length (unwrap_or o []) ≤ 32)
      step None q = (tt, omega arith)
      step (Some columns) q = (valid.schema r columns q, valid.narrow r columns q)

  test_known : (r : List ℕ) (columns : List Column) (c : Test)
      → first_refusal (test_counts c) ≡ None → test_known_in r columns c ≡ None → IsWritableTest c
  test_known r columns c e k = writable_test c e
      (own_references columns (test_references c)
      (none_mapped (op_refusal.NoColumn r) (first_unknown (own_kinds columns) (test_references c))
      k))

  operator_writable : (op : Operator) → op_fault tables op ≡ None
      → first_refusal (operator_counts op) ≡ None → IsWritableOperator op
  operator_writable nop e k = tt
  operator_writable (create_table r cs) e k =
      let m = create_met (all_preconditions tables (create_table r cs) e) in
      let h = leb-true (length cs) 32 (met (nat_le (length cs) 32) (op_refusal.TooMany COLUMNS 32)
      m.columns_few) in
      omega (arith, h)
  operator_writable (drop_table r) e k = tt
  operator_writable (rename_table r t) e k = tt
  operator_writable (copy_table r t) e k = tt
  operator_writable (merge_table r s t) e k = tt
  operator_writable (partition_table r s c t) e k =
      let m = partition_met c (all_preconditions tables (partition_table r s c t) e) in
      test_known r (columns_of tables r) c k m.columns_known
  operator_writable (decompose_table r s xs t ys) e k =
      let m = decompose_met (all_preconditions tables (decompose_table r s xs t ys) e) in
      let columns : List Column = columns_of tables r in
      let l = valid_columns r in
      let known = known_first (names_of columns) xs ys
      (none_mapped (op_refusal.NoColumn r) (first_not_among (names_of columns) (xs ++ ys))
      m.columns_known) in
      let once = none_mapped (op_refusal.ColumnExists s) (first_again xs) m.first_once in
      let again = none_mapped (op_refusal.ColumnExists t) (first_again ys) m.second_once in
      let a = no_more columns xs l.0 once known.0 in
      let b = no_more columns ys l.0 again known.1 in
      let n = l.1 in
      (omega (arith, a, n), omega (arith, b, n))
  operator_writable (join_table r s t c) e k =
      let m = join_met c (all_preconditions tables (join_table r s t c) e) in
      test_known t (joined_columns (columns_of tables r) (columns_of tables s)) c k
      m.columns_known
  operator_writable (add_column c t r) e k =
      let m = add_met t (all_preconditions tables (add_column c t r) e) in
      writable_tree t k (own_references (columns_of tables r) (references t)
      (none_mapped (op_refusal.NoColumn r)
      (first_unknown (own_kinds (columns_of tables r)) (references t)) m.columns_known))
  operator_writable (drop_column c r) e k = tt
  operator_writable (rename_column b r c) e k = tt

-- of one member
evolution_writable : (tables : Tables) → IsValid tables → (op : List Operator) → HasOneMember op
    → evolution_fault tables op ≡ None → first_refusal (evolution_counts op) ≡ None
    → IsWritableEvolution op
evolution_writable tables l [] one e k = absurd one
evolution_writable tables l (op ∷ []) one e k =
    operator_writable tables l op (all_accepted tables (op ∷ []) e).0
    (none_of_both (operator_counts op) [] k).0
evolution_writable tables l (op ∷ p ∷ ops) one e k = absurd one

-- an inverse's operators, each on the schema that stands then
inverse_writable : (before now : Tables) → IsValid now → (i : ℕ) (ops : List (List Operator))
    → AllByRecursion HasOneMember ops → first_refusal (way_back before now i ops) ≡ None
    → first_refusal (flat_map evolution_counts ops) ≡ None
    → AllByRecursion IsWritableEvolution ops
inverse_writable before now l i [] one e k = tt
inverse_writable before now l i (op ∷ ops) one e k =
    let h = none_of_first (option_map (refusal.InverseOp i) (evolution_fault now op))
    (way_back before (schema_after_each now op) (i + 1) ops) e in
    let accepted = none_mapped (refusal.InverseOp i) (evolution_fault now op) h.0 in
    let c = none_of_both (evolution_counts op) (flat_map evolution_counts ops) k in (
      evolution_writable now l op one.0 accepted c.0,
      inverse_writable before (schema_after_each now op)
          (each_is_valid now op l (all_accepted now op accepted)) (i + 1) ops one.1 h.1 c.1,
    )

-- ---- changes

length_names : {X : Type 0} (pairs : List (List ℕ × X)) → length (pair_names pairs) ≡ length pairs
length_names [] = refl
length_names (p ∷ pairs) = ap suc (length_names pairs)

-- pairs whose names are named once, of columns, are no more than the columns
few_pairs : {X : Type 0} (t : List ℕ) (columns : List Column) (pairs : List (List ℕ × X))
    → AreColumns columns → first_refusal (name_faults t columns (pair_names pairs)) ≡ None
    → length pairs ≤ length columns
few_pairs t columns pairs a e = omega (
  arith,
  few_names t columns (pair_names pairs) a e,
  length_names pairs,
)

few_changes : (changes : List PlainChange) → first_excess (changing changes) ≡ None
    → length changes ≤ 65536
few_changes changes k =
    let parts = none_of_both (flat_map change_counts (take 65536 changes))
    (at_most Changes 65536 (length changes) ∷ []) k in
    fits Changes 65536 (length changes) (sym (first_alone (at_most Changes 65536 (length changes)))
    ∙ parts.1)

sets_writable : (columns : List Column) (sets : List (List ℕ × Tree))
    → first_refusal (set_counts sets) ≡ None → AllByRecursion IsOwn (set_references sets)
    → AllByRecursion (λ s. IsWritableTree s.1) sets
sets_writable columns [] e h = tt
sets_writable columns (s ∷ sets) e h =
    let c = none_of_both (tree_counts s.1) (set_counts sets) e in
    let r = parted IsOwn (references s.1) (set_references sets) h in
    (writable_tree s.1 c.0 r.0, sets_writable columns sets c.1 r.1)

module _ (columns : List Column) (valid : AreColumns columns) (narrow : length columns ≤ 32)
    (at : ℕ) where
  change_in_table : (c : PlainChange) → first_refusal (tests_after columns c at) ≡ None
      → first_refusal (change_counts c) ≡ None → IsWritableChange c
  change_in_table (insertion t cells) e k =
      let names = (none_of_both (name_faults t columns (pair_names cells))
      (missing_fault t columns (pair_names cells) ∷ cell_faults columns at cells) e).0 in
      let h = few_pairs t columns cells valid names in
      omega (arith, h, narrow)
  change_in_table (deletion t c) e k =
      let h = (none_of_first (reference_fault columns (test_references c))
      (test_fault columns at c ∷ []) e).0 in
      writable_test c k (own_references columns (test_references c)
      (none_mapped refusal.NoColumn (first_unknown (own_kinds columns) (test_references c)) h))
  change_in_table (update t sets c) e k =
      let parts = none_of_both (name_faults t columns (pair_names sets))
      (reference_fault columns (set_references sets ++ test_references c)
      ∷ (set_faults columns at sets ++ test_fault columns (at + sets_nodes sets) c ∷ [])) e in
      let n = few_pairs t columns sets valid parts.0 in
      let known = (none_of_first (reference_fault columns
      (set_references sets ++ test_references c))
      (set_faults columns at sets ++ test_fault columns (at + sets_nodes sets) c ∷ [])
      parts.1).0 in
      let own = parted IsOwn (set_references sets) (test_references c)
      (own_references columns (set_references sets ++ test_references c)
      (none_mapped refusal.NoColumn (first_unknown (own_kinds columns)
      (set_references sets ++ test_references c)) known)) in
      let counts = none_of_both (set_counts sets) (test_counts c) k in (
        omega (arith, n, narrow),
        sets_writable columns sets counts.0 own.0,
        writable_test c counts.1 own.1,
      )

changes_writable : (tables : Tables) → IsValid tables → (changes : List PlainChange) (at : ℕ)
    → first_refusal (changes_tests tables changes at) ≡ None
    → first_refusal (flat_map change_counts changes) ≡ None
    → AllByRecursion IsWritableChange changes
changes_writable tables l [] at e k = tt
changes_writable tables l (c ∷ changes) at e k =
    let h = none_of_both (change_tests tables c at)
    (changes_tests tables changes (at + change_nodes c)) e in
    let first = none_of_first (table_fault tables (table_of c))
    (tests_after (columns_of tables (table_of c)) c at) h.0 in
    let counts = none_of_both (change_counts c) (flat_map change_counts changes) k in
    let lc = valid_columns tables l (table_of c) in (
      change_in_table (columns_of tables (table_of c)) lc.0 lc.1 at c first.1 counts.0,
      changes_writable tables l changes (at + change_nodes c) h.1 counts.1,
    )

-- ---- commands

no_excess : (e : Excess) → count_fault e ≡ None → e ≡ None
no_excess None h = refl
no_excess (Some x) h = cc

inverse_of : (tables : Tables) → IsValid tables → (op : List Operator)
    → evolution_fault tables op ≡ None → (ops : List (List Operator))
    → AllByRecursion HasOneMember ops → first_refusal (inverse_tests tables op ops) ≡ None
    → first_refusal (flat_map evolution_counts ops) ≡ None
    → AllByRecursion IsWritableEvolution ops
inverse_of tables l op accepted [] one h c = tt
inverse_of tables l op accepted (x ∷ ops) one h c =
    inverse_writable tables (schema_after_each tables op)
    (each_is_valid tables op l (all_accepted tables op accepted)) 1 (x ∷ ops) one h c

body_writable : (past : Past) → IsValid (newest_tables past) → (body : PlainBody)
    → HaveOneMember body → first_refusal (body_tests past body) ≡ None → first_excess body ≡ None
    → IsWritableBody body
body_writable past l (changing changes) one e k =
    let few = few_changes changes k in
    let parts = none_of_both (flat_map change_counts (take 65536 changes))
    (at_most Changes 65536 (length changes) ∷ []) k in
    let P : List PlainChange → Type 0 = λ cs. first_refusal (flat_map change_counts cs) ≡ None in (
      omega (arith, few),
      changes_writable (newest_tables past) l changes 0 e
          (subst P (take_all 65536 changes few) parts.0),
    )
body_writable past l (evolving op inverse) one e k =
    let tables : Tables = newest_tables past in
    let versions = none_of_first (unless (nat_lt (length past.versions) max_versions)
    (refusal.TooMany Versions max_versions))
    (option_map operator_refusal (evolution_fault tables op) ∷ inverse_tests tables op inverse) e in
    let tests = none_of_first (option_map operator_refusal (evolution_fault tables op))
    (inverse_tests tables op inverse) versions.1 in
    let accepted = none_mapped operator_refusal (evolution_fault tables op) tests.0 in
    let few = counted_length op inverse k in
    let counts = none_of_both (evolution_counts op)
    (flat_map evolution_counts (take 8 inverse) ++ at_most Inverse 8 (length inverse) ∷ []) k in
    let after_op = none_of_both (flat_map evolution_counts (take 8 inverse))
    (at_most Inverse 8 (length inverse) ∷ []) counts.1 in
    let P : List (List Operator) → Type 0 = λ ops. first_refusal (flat_map evolution_counts ops)
    ≡ None in
    let all = subst P (take_all 8 inverse few) after_op.0 in (
      evolution_writable tables l op one.0 accepted counts.0,
      omega (arith, few),
      inverse_of tables l op accepted inverse one.1 tests.1 all,
    )

pub accepted_writable : (past : Past) (command : PlainCommand) → IsValid (newest_tables past)
    → HaveOneMember command.body → command_fault past command ≡ None → IsWritable command
accepted_writable past command l one e =
    let counts = none_of_first (count_fault (first_excess command.body))
    (stamp_fault past.last command.stamp ∷ body_tests past command.body) e in
    let stamp = none_of_first (stamp_fault past.last command.stamp) (body_tests past command.body)
    counts.1 in
    body_writable past l command.body one stamp.1 (no_excess (first_excess command.body) counts.0)
