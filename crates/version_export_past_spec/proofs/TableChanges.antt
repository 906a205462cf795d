-- The changes of one table lead from the one relation to the other.
use Rattle.std.specs.Prelude.{◌≡◌, ◌++◌, Bool, true, false, not, List, [], ◌∷◌, map, Option}
use Rattle.std.specs.Prelude.{Some}
use Rattle.std.proofs.Common.{refl, sym, ap, subst, ◌∙◌, inl, inr}
use Rattle.std.specs.List.{filter}
use Rattle.std.specs.Option.{option_map}
use Rattle.std.specs.Ordering.{is_eq}
use Rattle.std.specs.declared.cmp.Ordering.{Ordering}
use Rattle.std.specs.declared.cmp.Ordering.TheVariants.{Less, Equal, Greater}
use Rattle.relations_spec.specs.Sets.{In, has, set_of}
use Rattle.relations_spec.proofs.SetLaws.{in_filter, from_filter, in_left, in_right, in_append}
use Rattle.relations_spec.proofs.SetLaws.{in_set}
use Rattle.relations_spec.proofs.SetLaws.{from_set, set_ascends, set_itself, one_list, has_in}
use Rattle.relations_spec.proofs.SetLaws.{has_not, cmp_itself}
use Rattle.prima_base.specs.Order.{row_cmp}
use Rattle.prima_base.specs.OrderLaws.{row_exact}
use Rattle.prima_base.specs.Columns.{Column, AreColumns, IsRow, IsRelation}
use Rattle.schema_catalog.specs.Places.{NamedColumns}
use Rattle.smo_ops_types.specs.Changes.{PlainChange}
use Rattle.smo_ops_spec.specs.OneRow.{Row, Relation, meets, row_of}
use Rattle.smo_ops_spec.specs.Effects.{gained_rows}
use Rattle.smo_ops_spec.specs.Inserting.{relation_after_each, insertions}
use Rattle.smo_ops_spec.proofs.RelationLaws.{filter_ascends}
use Rattle.smo_ops_spec.proofs.Insertions.{union_of_insertions}
use Rattle.version_export_past_spec.specs.Rows.{row_cells, is_row_of, ending, beginning}
use Rattle.version_export_past_spec.specs.Rows.{table_changes}
use Rattle.version_export_past_spec.proofs.RowCells.{meets_is, row_again}

opposite : (b : Bool) → not b ≡ true → b ≡ false
opposite true e = absurd (cc)
opposite false e = refl

equal_rows : (a b : Row) → is_eq (row_cmp a b) ≡ true → a ≡ b
equal_rows a b e = step (row_cmp a b) refl e
  where
    step : (o : Ordering) → row_cmp a b ≡ o → is_eq o ≡ true → a ≡ b
    step Less q h = absurd (cc)
    step Equal q h = row_exact.same a b q
    step Greater q h = absurd (cc)

pub each_after : (columns : List Column) (a b : List PlainChange) (rows : Relation)
    → relation_after_each columns (a ++ b) rows
    ≡ relation_after_each columns b (relation_after_each columns a rows)
each_after columns [] b rows = refl
each_after columns (c ∷ a) b rows = each_after columns a b _

-- ---- which rows are gained

pub in_gained : (old new : Relation) (row : Row) → In row new → ¬ In row old
    → In row (gained_rows old new)
in_gained old new row m n = in_filter (λ r. not (has row_cmp r old)) row new m
    (ap not (step (has row_cmp row old) refl))
  where
    step : (b : Bool) → has row_cmp row old ≡ b → has row_cmp row old ≡ false
    step true e = absurd (n (has_in row_cmp row_exact row old e))
    step false e = e

pub from_gained : (old new : Relation) (row : Row) → In row (gained_rows old new)
    → In row new × (¬ In row old)
from_gained old new row m =
    let h = from_filter (λ r. not (has row_cmp r old)) row new m in
    (h.0, has_not row_cmp row_exact row old (opposite (has row_cmp row old) h.1))

-- ---- the rows that end

module _ (t : NamedColumns) (are : AreColumns t.1) where
  -- what is left after a row has ended
  one_ended : (row : Row) (rows : Relation) → IsRow t.1 row → IsRelation t.1 rows
      → IsRelation t.1 (filter (λ r. not (meets t.1 (is_row_of (row_cells t.1 row)) r)) rows)
  one_ended row rows h k = record {
    ascending = filter_ascends (λ r. not (meets t.1 (is_row_of (row_cells t.1 row)) r)) rows
        k.ascending;
    fitting = λ r m. k.fitting r
        (from_filter (λ r. not (meets t.1 (is_row_of (row_cells t.1 row)) r)) r rows m).0;
  }

  still_there : (row : Row) (rows : Relation) (r : Row) → IsRow t.1 row → IsRelation t.1 rows
      → In r rows → (row ≡ r → ⊥)
      → In r (filter (λ r. not (meets t.1 (is_row_of (row_cells t.1 row)) r)) rows)
  still_there row rows r h k m n = in_filter
      (λ r. not (meets t.1 (is_row_of (row_cells t.1 row)) r)) r rows m
      (ap not (meets_is t.1 row r are h (k.fitting r m) ∙ step (is_eq (row_cmp r row)) refl))
    where
      step : (b : Bool) → is_eq (row_cmp r row) ≡ b → is_eq (row_cmp r row) ≡ false
      step true e = absurd (n (sym (equal_rows r row e)))
      step false e = e

  not_ended : (row : Row) (rows : Relation) (r : Row) → IsRow t.1 row → IsRelation t.1 rows
      → In r (filter (λ r. not (meets t.1 (is_row_of (row_cells t.1 row)) r)) rows)
      → In r rows × (row ≡ r → ⊥)
  not_ended row rows r h k m =
      let f = from_filter (λ r. not (meets t.1 (is_row_of (row_cells t.1 row)) r)) r rows m in
      let e : is_eq (row_cmp r row) ≡ false = sym (meets_is t.1 row r are h (k.fitting r f.0))
      ∙ opposite (meets t.1 (is_row_of (row_cells t.1 row)) r) f.1 in
      (f.0, λ q. apart q e)
    where
      apart : row ≡ r → is_eq (row_cmp r row) ≡ false → ⊥
      apart q e = let s : is_eq (row_cmp r row) ≡ true
          = subst (λ (x : Row). is_eq (row_cmp r x) ≡ true) (sym q)
          (ap is_eq (cmp_itself row_cmp row_exact r)) in absurd (cc)

  -- after all of them: what is left is what was there and has not ended
  pub record IsLeft (ends rows left : Relation) : Type 0 where
    pub relation : IsRelation t.1 left
    pub stays : (r : Row) → In r rows → ¬ In r ends → In r left
    pub was : (r : Row) → In r left → In r rows × (¬ In r ends)

  pub all_ended : (ends rows : Relation) → ((row : Row) → In row ends → IsRow t.1 row)
      → IsRelation t.1 rows
      → IsLeft ends rows (relation_after_each t.1 (map (ending t) ends) rows)
  all_ended [] rows h k = record {
    relation = k;
    stays = λ r m n. m;
    was = λ r m. (m, λ n. n);
  }
  all_ended (row ∷ ends) rows h k =
      let one = h row (inl refl) in
      let left = one_ended row rows one k in
      let more = all_ended ends
      (filter (λ r. not (meets t.1 (is_row_of (row_cells t.1 row)) r)) rows)
      (λ r m. h r (inr m)) left in
      record {
        relation = more.relation;
        stays = λ r m n. more.stays r (still_there row rows r one k m (λ q. n (inl q)))
            (λ z. n (inr z));
        was = λ r m. (let w = more.was r m in let f = not_ended row rows r one k w.0 in (
          f.0,
          λ z. elim z [ inl q ↦ f.1 q | inr i ↦ w.1 i ],
        ));
      }

  -- ---- the rows that begin

  given_all : (begun : Relation) → ((row : Row) → In row begun → IsRow t.1 row)
      → insertions t.1 (map (beginning t) begun) ≡ Some begun
  given_all [] h = refl
  given_all (row ∷ begun) h =
      ap (λ (o : Option (List Row)). option_map
      (λ rows. row_of t.1 (row_cells t.1 row) ∷ rows) o) (given_all begun (λ r m. h r (inr m)))
      ∙ ap (λ (r : Row). Some (r ∷ begun)) (row_again t.1 row are (h row (inl refl)))

  pub rebuilt : (old new : Relation) → IsRelation t.1 old → IsRelation t.1 new
      → relation_after_each t.1 (table_changes t old new) old ≡ new
  rebuilt old new o n =
      each_after t.1 (map (ending t) (gained_rows new old))
      (map (beginning t) (gained_rows old new))
      old
      ∙ ap (relation_after_each t.1 (map (beginning t) begun))
      (sym (set_itself row_cmp row_exact left leaves.relation.ascending))
      ∙ union_of_insertions t.1 (map (beginning t) begun) begun left
      (given_all begun (λ r m. n.fitting r (from_gained old new r m).0))
      ∙ one_list row_cmp row_exact (set_of row_cmp (left ++ begun)) new
      (set_ascends row_cmp row_exact (left ++ begun)) n.ascending
      (record { there = there; back = back })
    where
      begun : Relation
      begun = gained_rows old new

      left : Relation
      left = relation_after_each t.1 (map (ending t) (gained_rows new old)) old

      leaves : IsLeft (gained_rows new old) old left
      leaves = all_ended (gained_rows new old) old
          (λ r m. o.fitting r (from_gained new old r m).0) o

      there : (r : Row) → In r (set_of row_cmp (left ++ begun)) → In r new
      there r m = elim (in_append r left begun
          (from_set row_cmp row_exact r (left ++ begun) m)) [
            | inl a ↦ old_or_new r (leaves.was r a) (has row_cmp r new) refl
            | inr b ↦ (from_gained old new r b).0
          ]
        where
          old_or_new : (r : Row) → (In r old × (¬ In r (gained_rows new old))) → (b : Bool)
              → has row_cmp r new ≡ b → In r new
          old_or_new r w true e = has_in row_cmp row_exact r new e
          old_or_new r w false e = absurd (w.1 (in_gained new old r w.0
              (has_not row_cmp row_exact r new e)))

      back : (r : Row) → In r new → In r (set_of row_cmp (left ++ begun))
      back r m = in_set row_cmp row_exact r (left ++ begun) (step (has row_cmp r old) refl)
        where
          step : (b : Bool) → has row_cmp r old ≡ b → In r (left ++ begun)
          step true e = in_left r left begun (leaves.stays r (has_in row_cmp row_exact r old e)
              (λ z. (from_gained new old r z).1 m))
          step false e = in_right r left begun (in_gained old new r m
              (has_not row_cmp row_exact r old e))
