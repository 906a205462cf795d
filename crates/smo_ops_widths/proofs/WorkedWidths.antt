-- Widths of worked rows: a column that is joined of itself eight times, again and again; a table in
-- two parts that are merged again; two tables that are joined; and one that was not there.
use Rattle.std.proofs.Common.{◌≡◌, ℕ, List, [], ◌∷◌, refl}
use Rattle.std.specs.Prelude.{map, codes, Option, Some, None, if◌then◌else◌}
use Rattle.cond_expr.specs.declared.expr.CmpOp.TheVariants.{Lt}
use Rattle.cond_expr.specs.Trees.{Tree, joined, no_trees, a_tree, Test, constant, always, compared}
use Rattle.smo_ops_types.specs.Operators.{create_table, merge_table, partition_table, add_column}
use Rattle.smo_ops_spec.specs.OneRow.{same}
use Rattle.smo_ops_spec.specs.Past.{no_tables}
use Rattle.prima_base.specs.declared.value.ColType.TheVariants.{Int as INT, Text as TEXT}
use Rattle.prima_base.specs.Columns.{Column}
use Rattle.smo_ops_widths.specs.Widths.{Width, made_widths, measure_of, own_width}
use Rattle.smo_ops_widths.specs.Widths.{joined_width, measure}
use Rattle.smo_ops_versions_spec.proofs.WorkedWords.{a, k, x, y, r, s, t, int, at_atom}
use Rattle.smo_ops_versions_spec.proofs.WorkedWords.{a_columns, kx_columns, ky_columns}

abbrev eight : List ℕ → Tree
eight c = joined (a_tree (at_atom 0 c) (a_tree (at_atom 0 c) (a_tree (at_atom 0 c)
    (a_tree (at_atom 0 c) (a_tree (at_atom 0 c) (a_tree (at_atom 0 c) (a_tree (at_atom 0 c)
    (a_tree (at_atom 0 c) no_trees))))))))

abbrev next : List ℕ → List ℕ → List (Option Width) → List (Option Width)
next old new [] = []
next old new (w ∷ ws) = made_widths no_tables (add_column new (eight old) t) (λ n. w)

abbrev first : List (Option Width)
first = Some own_width ∷ []

abbrev seventh : List (Option Width)
seventh = next (codes "c6") (codes "c7") (next (codes "c5") (codes "c6")
    (next (codes "c4") (codes "c5") (next (codes "c3") (codes "c4")
    (next (codes "c2") (codes "c3") (next (codes "c1") (codes "c2") first)))))

abbrev text_columns : List (List ℕ) → List Column
text_columns names = map (λ (n : List ℕ). (n, TEXT)) names

abbrev measures : List (List ℕ) → List (Option Width) → ℕ
measures names [] = 0
measures names (w ∷ ws) = measure_of (text_columns names) w

abbrev seven : List (List ℕ)
seven = codes "c1" ∷ codes "c2" ∷ codes "c3" ∷ codes "c4" ∷ codes "c5" ∷ codes "c6" ∷ codes "c7"
    ∷ []

of_seven : measures seven seventh ≡ 342393
of_seven = refl

of_eight : measures (codes "c8" ∷ seven) (next (codes "c7") (codes "c8") seventh) ≡ 2739138
of_eight = refl

-- ---- in two parts, and merged again

abbrev low : Test
low = compared Lt (at_atom 0 a) (constant (int 10))

abbrev parts : List (Option Width)
parts = made_widths no_tables (partition_table t r low s) (λ n. Some own_width)

abbrev all_measures : List (Option Width) → List ℕ
all_measures made = map (measure_of a_columns) made

of_parts : all_measures parts ≡ 7 ∷ 8 ∷ []
of_parts = refl

abbrev merged : List (Option Width) → List (Option Width)
merged [] = []
merged (w ∷ []) = []
merged (w ∷ x ∷ rest) = made_widths no_tables (merge_table r s t) (λ n. if same n r then w else x)

of_merged : all_measures (merged parts) ≡ 16 ∷ []
of_merged = refl

-- ---- joined: k is a common column

of_joined : measure ((k, INT) ∷ (x, TEXT) ∷ (y, INT) ∷ [])
    (joined_width kx_columns ky_columns always own_width own_width) ≡ 12
of_joined = refl

-- ---- made on the way, or lost

of_created : all_measures (made_widths no_tables (create_table t a_columns) (λ n. None)) ≡ 0 ∷ []
of_created = refl

of_lost : all_measures (made_widths no_tables (merge_table r s t) (λ n. None)) ≡ 0 ∷ []
of_lost = refl
