-- What the counts of a command tell of its changes, and how many nodes an accepted change has.
use Rattle.std.proofs.Common.{◌≡◌, ◌≤◌, ◌+◌, ◌*◌, ℕ, true, List, [], ◌∷◌, ◌++◌, length, take, refl}
use Rattle.std.proofs.Common.{sym, subst, ◌∙◌, arith}
use Rattle.std.specs.Prelude.{Option, Some, None, is_some}
use Rattle.std.specs.Option.{unwrap_or}
use Rattle.std.specs.List.{flat_map}
use Rattle.std.specs.FinMap.{get, contains_key}
use Rattle.std.proofs.lemmas.List.{take_all}
use Rattle.prima_base.specs.declared.refusal.What.TheVariants.{Changes}
use Rattle.prima_base.specs.declared.refusal.Refusal.TheVariants.{NoTable}
use Rattle.prima_base.specs.Columns.{Column, AreColumns}
use Rattle.schema_catalog.specs.Tables.{Tables, IsSchema}
use Rattle.cond_expr.specs.Trees.{Tree}
use Rattle.cond_expr.specs.Faults.{test_references}
use Rattle.smo_ops_types.specs.Changes.{PlainChange, insertion, deletion, update, table_of}
use Rattle.smo_ops_types.specs.Commands.{changing}
use Rattle.smo_ops_spec.specs.First.{first_refusal}
use Rattle.smo_ops_spec.specs.Effects.{columns_of}
use Rattle.smo_ops_spec.specs.Preconditions.{AreNarrow}
use Rattle.smo_ops_spec.specs.Counts.{at_most, tree_counts, test_counts, set_counts, change_counts}
use Rattle.smo_ops_spec.specs.Counts.{first_excess}
use Rattle.smo_ops_spec.specs.Checks.{AreSmall, IsSmall, AllSmall, pair_names, name_faults}
use Rattle.smo_ops_spec.specs.Checks.{missing_fault, cell_faults, reference_fault, set_references}
use Rattle.smo_ops_spec.specs.Checks.{set_faults, sets_nodes, test_fault, table_fault, tests_after}
use Rattle.smo_ops_spec.specs.Checks.{change_tests, change_nodes}
use Rattle.smo_ops_spec.proofs.Firsts.{none_of_both, none_of_first, met, first_alone}
use Rattle.smo_ops.proofs.ChangeTests.{few_pairs}
use Rattle.smo_ops_spec.proofs.SmallTrees.{fits, small_tree, small_test}

small_sets : (sets : List (List ℕ × Tree)) → first_refusal (set_counts sets) ≡ None → AreSmall sets
small_sets [] e = tt
small_sets (s ∷ sets) e = (let h = none_of_both (tree_counts s.1) (set_counts sets) e in
    (small_tree s.1 h.0, small_sets sets h.1))

small_change : (c : PlainChange) → first_refusal (change_counts c) ≡ None → IsSmall c
small_change (insertion t cells) e = tt
small_change (deletion t c) e = small_test c e
small_change (update t sets c) e = (let h = none_of_both (set_counts sets) (test_counts c) e in
    (small_sets sets h.0, small_test c h.1))

small_changes : (changes : List PlainChange) → first_refusal (flat_map change_counts changes) ≡ None
    → AllSmall changes
small_changes [] e = tt
small_changes (c ∷ changes) e = (let h = none_of_both (change_counts c)
    (flat_map change_counts changes) e in (small_change c h.0, small_changes changes h.1))

-- where the counts are within their limits
pub counted_few : (changes : List PlainChange) → first_excess (changing changes) ≡ None
    → length changes ≤ 65536
counted_few changes e =
    fits Changes 65536 (length changes) (sym (first_alone (at_most Changes 65536 (length changes)))
    ∙ (none_of_both (flat_map change_counts (take 65536 changes))
    (at_most Changes 65536 (length changes) ∷ []) e).1)

pub counted_small : (changes : List PlainChange) → first_excess (changing changes) ≡ None
    → AllSmall changes
counted_small changes e =
    let parts = none_of_both (flat_map change_counts (take 65536 changes))
    (at_most Changes 65536 (length changes) ∷ []) e in
    let all : take 65536 changes ≡ changes = take_all 65536 changes (counted_few changes e) in
    small_changes changes (subst (λ (cs : List PlainChange).
    first_refusal (flat_map change_counts cs) ≡ None) all parts.0)

-- an accepted change names each column once, and its trees are small
small_sum : (sets : List (List ℕ × Tree)) → AreSmall sets → sets_nodes sets ≤ 256 * length sets
small_sum [] h = omega arith
small_sum (s ∷ sets) h = (let k = small_sum sets h.1 in let m = h.0 in omega arith)

few_in_table : (columns : List Column) (c : PlainChange) (at : ℕ) → AreColumns columns
    → length columns ≤ 32 → IsSmall c → first_refusal (tests_after columns c at) ≡ None
    → change_nodes c ≤ 8448
few_in_table columns (insertion t cells) at a n s e =
    let names = (none_of_both (name_faults t columns (pair_names cells))
    (missing_fault t columns (pair_names cells) ∷ cell_faults columns at cells) e).0 in
    let h = few_pairs t columns cells a names in
    omega arith
few_in_table columns (deletion t c) at a n s e = omega arith
few_in_table columns (update t sets c) at a n s e =
    let names = (none_of_both (name_faults t columns (pair_names sets))
    (reference_fault columns (set_references sets ++ test_references c)
    ∷ (set_faults columns at sets ++ test_fault columns (at + sets_nodes sets) c ∷ [])) e).0 in
    let h = few_pairs t columns sets a names in
    let k = small_sum sets s.0 in
    let m = s.1 in
    omega arith

pub few_nodes : (tables : Tables) (c : PlainChange) (at : ℕ) → IsSchema tables → AreNarrow tables
    → IsSmall c → first_refusal (change_tests tables c at) ≡ None → change_nodes c ≤ 8448
few_nodes tables c at i n s e = step (get tables (table_of c)) refl
    (met (contains_key tables (table_of c)) (NoTable (table_of c)) parts.0)
  where
    parts : (table_fault tables (table_of c) ≡ None)
        × (first_refusal (tests_after (columns_of tables (table_of c)) c at) ≡ None)
    parts = none_of_first (table_fault tables (table_of c))
        (tests_after (columns_of tables (table_of c)) c at) e

    step : (o : Option (List Column)) → get tables (table_of c) ≡ o
        → is_some (get tables (table_of c)) ≡ true → change_nodes c ≤ 8448
    step None q there = absurd (cc)
    step (Some columns) q there =
        few_in_table columns c at (i (table_of c) columns q) (n (table_of c) columns q) s
        (subst (λ (o : Option (List Column)).
        first_refusal (tests_after (unwrap_or o []) c at) ≡ None) q parts.1)
