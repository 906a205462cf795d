-- An accepted change keeps a relation of the table's columns.
use Rattle.std.proofs.Common.{◌≡◌, ◌+◌, ℕ, Bool, true, false, List, [], ◌∷◌, ◌++◌, map, refl, sym}
use Rattle.std.proofs.Common.{ap, subst, ◌∙◌, inl, inr}
use Rattle.std.specs.Prelude.{cond, not, Some, None, if◌then◌else◌}
use Rattle.std.specs.List.{filter}
use Rattle.relations_spec.specs.Sets.{In, Ascends, put_in, set_of}
use Rattle.relations_spec.proofs.SetLaws.{from_filter, from_map, below_each, before_in, set_ascends}
use Rattle.relations_spec.proofs.SetLaws.{set_itself, from_set}
use Rattle.prima_base.specs.declared.value.Value.{Value}
use Rattle.prima_base.specs.declared.value.ColType.{ColType}
use Rattle.prima_base.specs.declared.refusal.Refusal.TheVariants.{WrongType, ColumnMissing}
use Rattle.prima_base.specs.Order.{row_cmp}
use Rattle.prima_base.specs.OrderLaws.{row_exact, same_is}
use Rattle.prima_base.specs.Columns.{Column, names_of, AreColumns, IsRow, IsRelation}
use Rattle.schema_catalog.specs.Databases.{cell}
use Rattle.cond_expr.specs.Trees.{Tree}
use Rattle.cond_expr.specs.Sizes.{nodes_of}
use Rattle.cond_expr.specs.Values.{value}
use Rattle.cond_expr.specs.Kinds.{value_kind, same_kind, kind_of}
use Rattle.smo_ops_types.specs.Changes.{PlainChange, insertion, deletion, update}
use Rattle.smo_ops_spec.specs.First.{unless, first_refusal}
use Rattle.smo_ops_spec.specs.OneRow.{Row, Relation, same, own_kinds, own_cells, meets, given}
use Rattle.smo_ops_spec.specs.OneRow.{row_of, set_value, with_sets, updated}
use Rattle.smo_ops_spec.specs.Effects.{relation_after}
use Rattle.smo_ops_spec.specs.Preconditions.{type_in, first_not_among}
use Rattle.smo_ops_spec.specs.Checks.{pair_names, name_faults, missing_fault, cell_faults}
use Rattle.smo_ops_spec.specs.Checks.{reference_fault, set_references, tree_fault, test_fault}
use Rattle.smo_ops_spec.specs.Checks.{set_faults, sets_nodes, tests_after}
use Rattle.cond_expr.specs.Faults.{test_references}
use Rattle.smo_ops_spec.proofs.Firsts.{none_of_both, none_of_first, met, none_mapped}
use Rattle.smo_ops_spec.proofs.NameLaws.{same_itself, in_names, own_type, of_type, type_of}
use Rattle.smo_ops_spec.proofs.NameLaws.{same_known, cell_typed, row_from, none_missing}
use Rattle.smo_ops_spec.proofs.TypeLaws.{own_value_typed}

-- the union with a row
pub put_is_set : (row : Row) (rows : Relation) → Ascends row_cmp rows
    → put_in row_cmp row rows ≡ set_of row_cmp (row ∷ rows)
unfolding set_of
put_is_set row rows a = ap (put_in row_cmp row) (sym (set_itself row_cmp row_exact rows a))

pub filter_ascends : (p : Row → Bool) (rows : Relation) → Ascends row_cmp rows
    → Ascends row_cmp (filter p rows)
filter_ascends p [] a = tt
filter_ascends p (row ∷ rows) a = elim (p row) as (λ b.
    Ascends row_cmp (cond b (row ∷ filter p rows) (filter p rows))) [
      | true ↦ (
        below_each row_cmp row (filter p rows)
            (λ other m. before_in row_cmp row other rows a.0 (from_filter p other rows m).0),
        filter_ascends p rows a.1,
      )
      | false ↦ filter_ascends p rows a.1
    ]

-- each given value is of its column's type
first_given : (b : Bool) (m n : List ℕ) (v : Value) (k : ColType) (cells : List (List ℕ × Value))
    → (b ≡ true → m ≡ n) → (m ≡ n → b ≡ true)
    → (m ≡ n → value_kind v ≡ k) → (In n (pair_names cells) → value_kind (given cells n) ≡ k)
    → In n (m ∷ pair_names cells)
    → value_kind (if b then v else given cells n) ≡ k
first_given true m n v k cells is not_so f more i = f (is refl)
first_given false m n v k cells is not_so f more (inl e) = absurd (let h = not_so e in cc)
first_given false m n v k cells is not_so f more (inr i) = more i

same_made : (m n : List ℕ) → m ≡ n → same m n ≡ true
same_made m n e = subst (λ (x : List ℕ). same m x ≡ true) e (same_itself m)

pub given_typed : (columns : List Column) (at : ℕ) (cells : List (List ℕ × Value)) (n : List ℕ)
    (k : ColType) → first_refusal (cell_faults columns at cells) ≡ None
    → In n (pair_names cells) → type_in columns n ≡ Some k → value_kind (given cells n) ≡ k
given_typed columns at [] n k e i t = absurd i
given_typed columns at (c ∷ cells) n k e i t =
    let parts = none_of_first (unless (same_kind (type_in columns c.0) (Some (value_kind c.1)))
    (WrongType at)) (cell_faults columns (at + 1) cells) e in
    let fits = met (same_kind (type_in columns c.0) (Some (value_kind c.1))) (WrongType at)
    parts.0 in
    first_given (same c.0 n) c.0 n c.1 k cells (same_is c.0 n) (same_made c.0 n)
    (λ h. one_type (same_known (type_in columns c.0) (Some (value_kind c.1)) k fits
    (ap (type_in columns) h ∙ t)))
    (λ j. given_typed columns (at + 1) cells n k parts.1 j t) i
  where
    one_type : Some (value_kind c.1) ≡ Some k → value_kind c.1 ≡ k
    one_type h = cc

pub inserted_row : (columns : List Column) (t : List ℕ) (cells : List (List ℕ × Value)) (at : ℕ)
    → AreColumns columns
    → first_refusal (tests_after columns (insertion t cells) at) ≡ None
    → IsRow columns (row_of columns cells)
inserted_row columns t cells at a e =
    let parts = none_of_both (name_faults t columns (pair_names cells))
    (missing_fault t columns (pair_names cells) ∷ cell_faults columns at cells) e in
    let rest = none_of_first (missing_fault t columns (pair_names cells))
    (cell_faults columns at cells) parts.1 in
    let whole = none_mapped (ColumnMissing t)
    (first_not_among (pair_names cells) (names_of columns)) rest.0 in
    row_from columns (λ c. given cells c.0) (λ c m. of_type (given cells c.0) c.1
    (given_typed columns at cells c.0 c.1 rest.1
    (none_missing (names_of columns) (pair_names cells) c.0 whole (in_names columns c m))
    (own_type columns c a m)))

-- what is set is of its column's type
first_set : (b : Bool) (v x : Value) (k : ColType) → (b ≡ true → value_kind v ≡ k)
    → value_kind x ≡ k → value_kind (if b then v else x) ≡ k
first_set true v x k f g = f refl
first_set false v x k f g = g

pub set_typed : (columns : List Column) (row : Row) (at : ℕ) (sets : List (List ℕ × Tree))
    (n : List ℕ) (k : ColType) → IsRow columns row
    → first_refusal (set_faults columns at sets) ≡ None → type_in columns n ≡ Some k
    → value_kind (set_value columns row sets n) ≡ k
set_typed columns row at [] n k r e t = type_of (cell columns row n) k
    (cell_typed columns row n k r t)
set_typed columns row at (s ∷ sets) n k r e t =
    let last = none_of_first (unless (same_kind (type_in columns s.0)
    (kind_of (own_kinds columns) s.1)) (WrongType at))
    (set_faults columns (at + nodes_of s.1) sets)
    (none_of_first (tree_fault columns at s.1)
    (unless (same_kind (type_in columns s.0) (kind_of (own_kinds columns) s.1)) (WrongType at)
    ∷ set_faults columns (at + nodes_of s.1) sets) e).1 in
    first_set (same s.0 n) (value (own_cells columns row) s.1) (set_value columns row sets n) k
    (λ h. own_value_typed columns row s.1 k r
    (same_known (type_in columns s.0) (kind_of (own_kinds columns) s.1) k
    (met (same_kind (type_in columns s.0) (kind_of (own_kinds columns) s.1)) (WrongType at) last.0)
    (ap (type_in columns) (same_is s.0 n h) ∙ t)))
    (set_typed columns row (at + nodes_of s.1) sets n k r last.1 t)

pub set_row : (columns : List Column) (row : Row) (at : ℕ) (sets : List (List ℕ × Tree))
    → AreColumns columns → IsRow columns row
    → first_refusal (set_faults columns at sets) ≡ None → IsRow columns (with_sets columns sets row)
set_row columns row at sets a r e =
    row_from columns (λ c. set_value columns row sets c.0)
    (λ c m. of_type (set_value columns row sets c.0) c.1
    (set_typed columns row at sets c.0 c.1 r e (own_type columns c a m)))

updated_row : (columns : List Column) (row : Row) (sets : List (List ℕ × Tree)) (b : Bool)
    → IsRow columns row → IsRow columns (with_sets columns sets row)
    → IsRow columns (if b then with_sets columns sets row else row)
updated_row columns row sets true r s = s
updated_row columns row sets false r s = r

pub keeps_relation : (columns : List Column) (change : PlainChange) (at : ℕ) (rows : Relation)
    → AreColumns columns → IsRelation columns rows
    → first_refusal (tests_after columns change at) ≡ None
    → IsRelation columns (relation_after columns change rows)
keeps_relation columns (insertion t cells) at rows a r e = record {
  ascending = subst (Ascends row_cmp) (sym (put_is_set (row_of columns cells) rows r.ascending))
      (set_ascends row_cmp row_exact (row_of columns cells ∷ rows));
  fitting = λ row m. either row (from_set row_cmp row_exact row (row_of columns cells ∷ rows)
      (subst (In row) (put_is_set (row_of columns cells) rows r.ascending) m));
}
  where
    either : (row : Row) → In row (row_of columns cells ∷ rows) → IsRow columns row
    either row (inl q) = subst (IsRow columns) q (inserted_row columns t cells at a e)
    either row (inr m) = r.fitting row m
keeps_relation columns (deletion t c) at rows a r e = record {
  ascending = filter_ascends (λ row. not (meets columns c row)) rows r.ascending;
  fitting = λ row m. r.fitting row (from_filter (λ row. not (meets columns c row)) row rows m).0;
}
keeps_relation columns (update t sets c) at rows a r e = record {
  ascending = set_ascends row_cmp row_exact (map (updated columns sets c) rows);
  fitting = λ row m. made row (from_map (updated columns sets c) row rows
      (from_set row_cmp row_exact row (map (updated columns sets c) rows) m));
}
  where
    typed : first_refusal (set_faults columns at sets) ≡ None
    typed = (none_of_both (set_faults columns at sets)
        (test_fault columns (at + sets_nodes sets) c ∷ [])
        (none_of_first (reference_fault columns (set_references sets ++ test_references c))
        (set_faults columns at sets ++ test_fault columns (at + sets_nodes sets) c ∷ [])
        (none_of_both (name_faults t columns (pair_names sets))
        (reference_fault columns (set_references sets ++ test_references c)
        ∷ (set_faults columns at sets ++ test_fault columns (at + sets_nodes sets) c ∷ []))
        e).1).1).0

    made : (row : Row) → (old : Row) × In old rows × (updated columns sets c old ≡ row)
        → IsRow columns row
    made row (old, m, q) = subst (IsRow columns) q
        (updated_row columns old sets (meets columns c old) (r.fitting old m)
        (set_row columns old at sets a (r.fitting old m) typed))
