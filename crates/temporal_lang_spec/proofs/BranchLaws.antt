-- What is so of a query's branches with their references made ones to atoms.
use Rattle.std.specs.Prelude.{◌≡◌, ◌&&◌, Bool, true, false, ℕ, ◌≤◌, List, [], ◌∷◌, map, length}
use Rattle.std.specs.Prelude.{take, nat_le, None}
use Rattle.std.proofs.Common.{refl, ap, subst, ◌∙◌, arith}
use Rattle.std.proofs.lemmas.List.{length-map, take_all}
use Rattle.std.specs.List.{flat_map}
use Rattle.prima_base.specs.declared.refusal.What.{What}
use Rattle.prima_base.specs.declared.refusal.What.TheVariants.{Nodes, Depth, Parts, Outputs}
use Rattle.prima_base.specs.declared.refusal.What.TheVariants.{Tables as TABLES, Branches, Keeps}
use Rattle.schema_catalog.specs.Tables.{Tables}
use Rattle.cond_expr.specs.declared.expr.Whose.{Whose}
use Rattle.cond_expr.specs.declared.expr.Whose.TheVariants.{Free, Alias, Atom}
use Rattle.cond_expr.specs.declared.expr.ColRef.{ColRef}
use Rattle.cond_expr.specs.Trees.{Tree, Test, fill, fill_test}
use Rattle.cond_expr.specs.Sizes.{nodes_of, depth_of, longest_of, test_nodes, test_depth}
use Rattle.cond_expr.specs.Sizes.{test_longest}
use Rattle.cond_expr.specs.Kinds.{kinds_of}
use Rattle.cond_expr.specs.Faults.{references, test_references, first_unknown}
use Rattle.smo_ops_spec.specs.First.{unless, first_refusal}
use Rattle.smo_ops_spec.specs.Counts.{at_most, tree_counts, test_counts}
use Rattle.smo_ops_spec.proofs.Firsts.{none_of_both, none_of_first}
use Rattle.plain_answers_spec.specs.Branches.{Item, PlainBranch, item_columns}
use Rattle.temporal_lang_types.specs.Branches.{has_parts, have_parts}
use Rattle.temporal_lang_types.specs.Queries.{PlainQuery}
use Rattle.cond_expr.specs.AtomColumns.{atoms_from, kinds_of_atoms}
use Rattle.prima_base.specs.Columns.{Column}
use Rattle.smo_ops_spec.specs.Effects.{columns_of}
use Rattle.temporal_lang_spec.specs.Atoms.{Source, sources_of, to_atoms, filled_branch}
use Rattle.temporal_lang_spec.specs.Atoms.{branches_with_atoms}
use Rattle.temporal_lang_spec.specs.Checking.{output_counts, branch_counts, branches_counts}
use Rattle.temporal_lang_spec.specs.Checking.{excess_of}
use Rattle.temporal_lang_spec.specs.Checking.{item_tests, reference_test, branch_references}
use Rattle.temporal_lang_spec.specs.Checking.{branch_names, names_tests}
use Rattle.temporal_lang_spec.specs.Resolved.{HaveFew, AreSmall, IsSmall, AllSmall, AllKnown}
use Rattle.temporal_lang_spec.proofs.FillLaws.{nodes_filled, test_nodes_filled, both, together}
use Rattle.temporal_lang_spec.proofs.FillLaws.{known_filled, known_test}
use Rattle.temporal_lang_spec.proofs.KnownLaws.{source_columns, known_reference}

-- ---- references

one_node : (sources : List Source) (w : Whose) (n : List ℕ) → nodes_of (to_atoms sources w n) ≡ 1
one_node sources Free n = refl
one_node sources (Alias alias) n = refl
one_node sources (Atom i) n = refl

module _ (sources : List Source) where
  abbrev overflows : List ColRef → Type 0
  overflows rs = first_refusal (map (reference_test sources) rs) ≡ None

  outputs_known : (ts : List Tree) → overflows (flat_map references ts)
      → first_unknown (kinds_of (atoms_from 0 (source_columns sources)))
      (flat_map references (map (fill (to_atoms sources)) ts)) ≡ None
  outputs_known [] h = refl
  outputs_known (t ∷ ts) h =
      let p = both (to_atoms sources) (kinds_of (atoms_from 0 (source_columns sources)))
      (reference_test sources) (known_reference sources) (references t) (flat_map references ts)
      h in
      together (to_atoms sources) (kinds_of (atoms_from 0 (source_columns sources)))
      (reference_test sources) (known_reference sources)
      (references (fill (to_atoms sources) t))
      (flat_map references (map (fill (to_atoms sources)) ts))
      (known_filled (to_atoms sources) (kinds_of (atoms_from 0 (source_columns sources)))
      (reference_test sources) (known_reference sources) t p.0)
      (outputs_known ts p.1)

  branch_known : (b : PlainBranch) → overflows (branch_references b)
      → first_unknown (kinds_of (atoms_from 0 (source_columns sources)))
      (branch_references (filled_branch (to_atoms sources) b)) ≡ None
  branch_known b h =
      let p = both (to_atoms sources) (kinds_of (atoms_from 0 (source_columns sources)))
      (reference_test sources) (known_reference sources) (flat_map references b.outs)
      (test_references b.cond) h in
      together (to_atoms sources) (kinds_of (atoms_from 0 (source_columns sources)))
      (reference_test sources) (known_reference sources)
      (flat_map references (map (fill (to_atoms sources)) b.outs))
      (test_references (fill_test (to_atoms sources) b.cond))
      (outputs_known b.outs p.0)
      (known_test (to_atoms sources) (kinds_of (atoms_from 0 (source_columns sources)))
      (reference_test sources) (known_reference sources) b.cond p.1)

same_columns : (tables : Tables) (from : List Item)
    → source_columns (sources_of tables from) ≡ item_columns tables from
same_columns tables [] = refl
same_columns tables (i ∷ from) = ap (λ (cs : List (List Column)). columns_of tables i.0 ∷ cs)
    (same_columns tables from)

pub all_known : (tables : Tables) (branches : List PlainBranch)
    → first_refusal (names_tests tables branches) ≡ None
    → AllKnown tables (branches_with_atoms tables branches)
all_known tables [] h = tt
all_known tables (b ∷ branches) h =
    let p = none_of_both (branch_names tables b) (names_tests tables branches) h in
    let q = none_of_both (item_tests tables b.from)
    (map (reference_test (sources_of tables b.from)) (branch_references b)) p.0 in (
      subst (λ (cs : List (List Column)). first_unknown (kinds_of_atoms cs)
          (branch_references (filled_branch (to_atoms (sources_of tables b.from)) b)) ≡ None)
          (same_columns tables b.from)
          (branch_known (sources_of tables b.from) b q.1),
      all_known tables branches p.1,
    )

-- ---- counts

within : (what : What) (limit n : ℕ) → at_most what limit n ≡ None → n ≤ limit
within what limit n h = step (nat_le n limit) refl h
  where
    step : (b : Bool) → nat_le n limit ≡ b → unless {R = What × ℕ} b (what, limit) ≡ None
        → n ≤ limit
    step true e q = grind (arith, e)
    step false e q = absurd (cc)

tree_small : (t : Tree) → first_refusal (tree_counts t) ≡ None → nodes_of t ≤ 256
tree_small t h = within Nodes 256 (nodes_of t)
    (none_of_first (at_most Nodes 256 (nodes_of t))
    (at_most Depth 32 (depth_of t) ∷ at_most Parts 8 (longest_of t) ∷ []) h).0

test_small : (c : Test) → first_refusal (test_counts c) ≡ None → test_nodes c ≤ 256
test_small c h = within Nodes 256 (test_nodes c)
    (none_of_first (at_most Nodes 256 (test_nodes c))
    (at_most Depth 32 (test_depth c) ∷ at_most Parts 8 (test_longest c) ∷ []) h).0

outputs_small : (ts : List Tree) → first_refusal (flat_map tree_counts ts) ≡ None → AreSmall ts
outputs_small [] h = tt
outputs_small (t ∷ ts) h = (let p = none_of_both (tree_counts t) (flat_map tree_counts ts) h in
    (tree_small t p.0, outputs_small ts p.1))

branch_small : (b : PlainBranch) → first_refusal (branch_counts b) ≡ None → (length b.from ≤ 8)
    × IsSmall b
branch_small b h =
    let o = none_of_both (output_counts b.outs)
    (at_most TABLES 8 (length b.from) ∷ test_counts b.cond) h in
    let p = none_of_both (flat_map tree_counts (take 32 b.outs))
    (at_most Outputs 32 (length b.outs) ∷ []) o.0 in
    let q = none_of_first (at_most Outputs 32 (length b.outs)) [] p.1 in
    let r = none_of_first (at_most TABLES 8 (length b.from)) (test_counts b.cond) o.1 in
    let few = within Outputs 32 (length b.outs) q.0 in (
      within TABLES 8 (length b.from) r.0,
      record {
        few = few;
        outs = outputs_small b.outs (subst (λ ts. first_refusal (flat_map tree_counts ts) ≡ None)
            (take_all 32 b.outs few) p.0);
        cond = test_small b.cond r.1;
      },
    )

branches_small : (branches : List PlainBranch)
    → first_refusal (flat_map branch_counts branches) ≡ None → HaveFew branches × AllSmall branches
branches_small [] h = (tt, tt)
branches_small (b ∷ branches) h =
    let p = none_of_both (branch_counts b) (flat_map branch_counts branches) h in
    let q = branch_small b p.0 in
    let r = branches_small branches p.1 in
    ((q.0, r.0), (q.1, r.1))

pub query_small : (query : PlainQuery) → excess_of query ≡ None → (length query.branches ≤ 16)
    × HaveFew query.branches × AllSmall query.branches
query_small query h =
    let o = none_of_both (branches_counts query.branches) (at_most Keeps 8 (length query.keep) ∷ [])
    h in
    let p = none_of_both (flat_map branch_counts (take 16 query.branches))
    (at_most Branches 16 (length query.branches) ∷ []) o.0 in
    let q = none_of_first (at_most Branches 16 (length query.branches)) [] p.1 in
    let few = within Branches 16 (length query.branches) q.0 in
    let r = branches_small query.branches (subst
    (λ bs. first_refusal (flat_map branch_counts bs) ≡ None) (take_all 16 query.branches few)
    p.0) in
    (few, r.0, r.1)

-- ---- the same with references made ones to atoms

module _ (tables : Tables) where
  filled_small : (sources : List Source) (ts : List Tree) → AreSmall ts
      → AreSmall (map (fill (to_atoms sources)) ts)
  filled_small sources [] h = tt
  filled_small sources (t ∷ ts) h = (
    let small = h.0 in let same =
        nodes_filled (to_atoms sources) (one_node sources) t in omega (arith, small, same),
    filled_small sources ts h.1,
  )

  pub still_small : (branches : List PlainBranch) → AllSmall branches
      → AllSmall (branches_with_atoms tables branches)
  still_small [] h = tt
  still_small (b ∷ branches) h =
      let sources = sources_of tables b.from in
      let count = length-map b.outs (fill (to_atoms sources)) in
      let few = h.0.few in
      let cond = h.0.cond in
      let same = test_nodes_filled (to_atoms sources) (one_node sources) b.cond in (
        record {
          few = omega (arith, count, few);
          outs = filled_small sources b.outs h.0.outs;
          cond = omega (arith, same, cond);
        },
        still_small branches h.1,
      )

  pub still_few : (branches : List PlainBranch) → HaveFew branches
      → HaveFew (branches_with_atoms tables branches)
  still_few [] h = tt
  still_few (b ∷ branches) h = (h.0, still_few branches h.1)

  pub still_parts : (branches : List PlainBranch)
      → have_parts (branches_with_atoms tables branches) ≡ have_parts branches
  still_parts [] = refl
  still_parts (b ∷ branches) =
      ap (λ n. (nat_le 1 n && nat_le 1 (length b.from))
      && have_parts (branches_with_atoms tables branches))
      (length-map b.outs (fill (to_atoms (sources_of tables b.from))))
      ∙ ap (λ h. has_parts b && h) (still_parts branches)
