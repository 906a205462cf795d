-- A refusal of an operator that names a node names one of its own nodes; and so does that of one of
-- its members.
use Rattle.std.proofs.Common.{◌≡◌, ◌<◌, ℕ, Bool, true, false, List, [], ◌∷◌}
use Rattle.std.specs.Prelude.{◌^◌, Option, Some, None, ⊤}
use Rattle.std.specs.Option.{option_map}
use Rattle.prima_base.specs.declared.refusal.OpRefusal.{OpRefusal}
use Rattle.prima_base.specs.declared.refusal.OpRefusal.TheVariants.{Exists, NoTable, ColumnExists}
use Rattle.prima_base.specs.declared.refusal.OpRefusal.TheVariants.{NoColumn, ColumnsDiffer}
use Rattle.prima_base.specs.declared.refusal.OpRefusal.TheVariants.{BadCover, LastColumn, SameTable}
use Rattle.prima_base.specs.declared.refusal.OpRefusal.TheVariants.{WrongType, TooMany}
use Rattle.prima_base.specs.declared.refusal.What.{What}
use Rattle.prima_base.specs.Columns.{Column}
use Rattle.schema_catalog.specs.Tables.{Tables}
use Rattle.cond_expr.specs.Trees.{Tree, Test}
use Rattle.cond_expr.specs.Sizes.{nodes_of, test_nodes}
use Rattle.smo_ops_types.specs.Operators.{Operator, nop, create_table, drop_table, rename_table}
use Rattle.smo_ops_types.specs.Operators.{copy_table, merge_table, partition_table, decompose_table}
use Rattle.smo_ops_types.specs.Operators.{join_table, add_column, drop_column, rename_column}
use Rattle.smo_ops_spec.specs.First.{unless, first_refusal}
use Rattle.smo_ops_spec.specs.OneRow.{own_kinds}
use Rattle.smo_ops_spec.specs.OperatorTable.{line}
use Rattle.smo_ops_spec.specs.Preconditions.{typed_in, test_typed_in}
use Rattle.smo_ops_spec.specs.After.{op_fault, HasFewNodes}
use Rattle.smo_ops_spec.specs.Evolutions.{operator_nodes}
use Rattle.smo_ops_spec.proofs.Places.{place_in_tree, place_in_test}

abbrev IsPlace : OpRefusal → Type 0
IsPlace r = (p : ℕ) × (r ≡ WrongType p)

-- where it names a node, this is one of so many
abbrev Within : ℕ → Option OpRefusal → Type 0
Within n o = (p : ℕ) → o ≡ Some (WrongType p) → p < n

abbrev AllWithin : ℕ → List (Option OpRefusal) → Type 0
AllWithin n [] = ⊤
AllWithin n (o ∷ os) = Within n o × AllWithin n os

of_unless : (n : ℕ) (b : Bool) (r : OpRefusal) → ((p : ℕ) → r ≡ WrongType p → ⊥)
    → Within n (unless b r)
of_unless n true r h p e = absurd (cc)
of_unless n false r h p e = absurd (h p (let s : r ≡ WrongType p = cc in s))

of_map : {A : Type 0} (n : ℕ) (f : A → OpRefusal) (o : Option A)
    → ((a : A) (p : ℕ) → f a ≡ WrongType p → ⊥) → Within n (option_map f o)
of_map n f None h p e = absurd (cc)
of_map n f (Some a) h p e = absurd (h a p (let s : f a ≡ WrongType p = cc in s))

of_place : (o : Option ℕ) (p : ℕ) → option_map WrongType o ≡ Some (WrongType p) → o ≡ Some p
of_place None p e = absurd (cc)
of_place (Some q) p e = cc

of_tree : (columns : List Column) (t : Tree) → Within (nodes_of t) (typed_in columns t)
of_tree columns t p e = place_in_tree (own_kinds columns) t p (of_place _ p e)

of_test : (columns : List Column) (c : Test) → Within (test_nodes c) (test_typed_in columns c)
of_test columns c p e = place_in_test (own_kinds columns) c p (of_place _ p e)

first_within : (n : ℕ) (os : List (Option OpRefusal)) → AllWithin n os
    → Within n (first_refusal os)
first_within n [] h p e = absurd (cc)
first_within n (None ∷ os) h p e = first_within n os h.1 p e
first_within n (Some r ∷ os) h p e = h.0 p e

no_exists : (t : List ℕ) (p : ℕ) → Exists t ≡ WrongType p → ⊥
no_exists t p e = cc

no_table : (t : List ℕ) (p : ℕ) → NoTable t ≡ WrongType p → ⊥
no_table t p e = cc

no_again : (t c : List ℕ) (p : ℕ) → ColumnExists t c ≡ WrongType p → ⊥
no_again t c p e = cc

no_column : (t c : List ℕ) (p : ℕ) → NoColumn t c ≡ WrongType p → ⊥
no_column t c p e = cc

no_unlike : (r s : List ℕ) (p : ℕ) → ColumnsDiffer r s ≡ WrongType p → ⊥
no_unlike r s p e = cc

no_cover : (t : List ℕ) (p : ℕ) → BadCover t ≡ WrongType p → ⊥
no_cover t p e = cc

no_last : (t : List ℕ) (p : ℕ) → LastColumn t ≡ WrongType p → ⊥
no_last t p e = cc

no_same : (t : List ℕ) (p : ℕ) → SameTable t ≡ WrongType p → ⊥
no_same t p e = cc

no_many : (w : What) (l : ℕ) (p : ℕ) → TooMany w l ≡ WrongType p → ⊥
no_many w l p e = cc

all_within : (tables : Tables) (op : Operator)
    → AllWithin (operator_nodes op) (line tables op).preconditions
all_within tables nop = tt
all_within tables (create_table r cs) = (of_unless 0 _ (Exists r) (no_exists r), (of_unless 0 _ (LastColumn r) (no_last r), (of_map 0 (ColumnExists r) _ (no_again r), (of_unless 0 _ _ (no_many _ _), (of_unless 0 _ _ (no_many _ _), tt)))))
all_within tables (drop_table r) = (of_unless 0 _ (NoTable r) (no_table r), tt)
all_within tables (rename_table r t) = (of_unless 0 _ (NoTable r) (no_table r), (of_unless 0 _ (SameTable r) (no_same r), (of_unless 0 _ (Exists t) (no_exists t), tt)))
all_within tables (copy_table r t) = (of_unless 0 _ (NoTable r) (no_table r), (of_unless 0 _ (Exists t) (no_exists t), (of_unless 0 _ _ (no_many _ _), tt)))
all_within tables (merge_table r s t) = (of_unless 0 _ (NoTable r) (no_table r), (of_unless 0 _ (NoTable s) (no_table s), (of_unless 0 _ (SameTable r) (no_same r), (of_unless 0 _ (Exists t) (no_exists t), (of_unless 0 _ (ColumnsDiffer r s) (no_unlike r s), tt)))))
all_within tables (partition_table r s c t) = (of_unless _ _ (NoTable r) (no_table r), (of_unless _ _ (SameTable s) (no_same s), (of_unless _ _ (Exists s) (no_exists s), (of_unless _ _ (Exists t) (no_exists t), (of_map _ (NoColumn r) _ (no_column r), (of_test _ c, (of_unless _ _ _ (no_many _ _), tt)))))))
all_within tables (decompose_table r s xs t ys) = (of_unless 0 _ (NoTable r) (no_table r), (of_unless 0 _ (SameTable s) (no_same s), (of_unless 0 _ (Exists s) (no_exists s), (of_unless 0 _ (Exists t) (no_exists t), (of_map 0 (NoColumn r) _ (no_column r), (of_map 0 (ColumnExists s) _ (no_again s), (of_map 0 (ColumnExists t) _ (no_again t), (of_unless 0 _ (BadCover r) (no_cover r), (of_unless 0 _ _ (no_many _ _), tt)))))))))
all_within tables (join_table r s t c) = (of_unless _ _ (NoTable r) (no_table r), (of_unless _ _ (NoTable s) (no_table s), (of_unless _ _ (SameTable r) (no_same r), (of_unless _ _ (Exists t) (no_exists t), (of_unless _ _ (ColumnsDiffer r s) (no_unlike r s), (of_unless _ _ _ (no_many _ _), (of_map _ (NoColumn t) _ (no_column t), (of_test _ c, tt))))))))
all_within tables (add_column c e r) = (of_unless _ _ (NoTable r) (no_table r), (of_unless _ _ (ColumnExists r c) (no_again r c), (of_map _ (NoColumn r) _ (no_column r), (of_tree _ e, (of_unless _ _ _ (no_many _ _), tt)))))
all_within tables (drop_column c r) = (of_unless 0 _ (NoTable r) (no_table r), (of_map 0 (NoColumn r) _ (no_column r), (of_unless 0 _ (LastColumn r) (no_last r), tt)))
all_within tables (rename_column b r c) = (of_unless 0 _ (NoTable r) (no_table r), (of_map 0 (NoColumn r) _ (no_column r), (of_unless 0 _ (ColumnExists r c) (no_again r c), tt)))

pub fault_place : (tables : Tables) (op : Operator) (p : ℕ)
    → op_fault tables op ≡ Some (WrongType p) → p < operator_nodes op
fault_place tables op p e = first_within (operator_nodes op) (line tables op).preconditions
    (all_within tables op) p e

-- few nodes are those of its tree
pub few_nodes : (op : Operator) → operator_nodes op < 2 ^ 32 → HasFewNodes op
few_nodes nop h = tt
few_nodes (create_table r cs) h = tt
few_nodes (drop_table r) h = tt
few_nodes (rename_table r t) h = tt
few_nodes (copy_table r t) h = tt
few_nodes (merge_table r s t) h = tt
few_nodes (partition_table r s c t) h = h
few_nodes (decompose_table r s xs t ys) h = tt
few_nodes (join_table r s t c) h = h
few_nodes (add_column c e r) h = h
few_nodes (drop_column c r) h = tt
few_nodes (rename_column b r c) h = tt
