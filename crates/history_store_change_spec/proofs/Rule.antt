-- The storing rule over relations alone, and the counts that follow.
use Rattle.std.proofs.Common.{◌≡◌, ◌||◌, ℕ, ◌+◌, ◌-◌, Bool, true, false, List, [], ◌∷◌, ◌++◌}
use Rattle.std.proofs.Common.{length, refl, ap, ◌∙◌, arith, if◌then◌else◌, length-append}
use Rattle.std.specs.declared.cmp.Ordering.{Ordering}
use Rattle.std.specs.declared.cmp.Ordering.TheVariants.{Less, Equal, Greater}
use Rattle.std.specs.Ordering.{ordering_reverse, is_eq}
use Rattle.prima_base.specs.Order.{row_cmp}
use Rattle.relations_spec.specs.Spans.{Span}
use Rattle.prima_base.specs.OrderLaws.{row_total}
use Rattle.prima_base.specs.declared.value.Value.{Value}
use Rattle.history_store_columns.specs.Log.{Write}
use Rattle.relations_spec.specs.Sets.{has}
use Rattle.history_store_row_order.specs.Rows.{row_now, rows_of}
use Rattle.history_store_row_order.specs.Handing.{only_in, lost_ids, gained_by, gained_rows, found}
use Rattle.history_store_writes.specs.Writing.{unpaired, keys_handed, new_keys}
use Rattle.history_store_change_spec.proofs.Applied.{length-end_keys, length-new_keys}

pub lost_rule : (columns : List (List Write)) (rows : List (List Value)) (ids : List ℕ)
    → rows_of (lost_ids columns ids rows) columns ≡ only_in (rows_of ids columns) rows
lost_rule columns rows [] = refl
lost_rule columns rows (id ∷ ids) =
    let e = lost_rule columns rows ids in
    elim (has row_cmp (row_now id columns) rows) as (λ b.
    rows_of (if b then lost_ids columns ids rows else id ∷ lost_ids columns ids rows) columns
    ≡ (if b then only_in (rows_of ids columns) rows
    else row_now id columns ∷ only_in (rows_of ids columns) rows))
    [ true ↦ e | false ↦ ap (λ rs. row_now id columns ∷ rs) e ]

either_way : (q r : List Value) → is_eq (row_cmp q r) ≡ is_eq (row_cmp r q)
either_way q r = ap is_eq (row_total.antisymm q r) ∙ back (row_cmp r q)
  where
    back : (o : Ordering) → is_eq (ordering_reverse o) ≡ is_eq o
    back Less = refl
    back Equal = refl
    back Greater = refl

gained_step : (columns : List (List Write)) (row : List Value) (ids : List ℕ)
    (rest : List (List Value)) → gained_by (found columns row ids) row rest
    ≡ (if has row_cmp row (rows_of ids columns) then rest else row ∷ rest)
gained_step columns row [] rest = refl
gained_step columns row (id ∷ ids) rest = rw (either_way row (row_now id columns))
    (by_case (is_eq (row_cmp (row_now id columns) row)) (gained_step columns row ids rest))
  where
    by_case : (b : Bool) → gained_by (found columns row ids) row rest
        ≡ (if has row_cmp row (rows_of ids columns) then rest else row ∷ rest)
        → gained_by (if b then id ∷ [] else found columns row ids) row rest
        ≡ (if b || has row_cmp row (rows_of ids columns) then rest else row ∷ rest)
    by_case true e = refl
    by_case false e = e

pub gained_rule : (columns : List (List Write)) (live : List ℕ) (rows : List (List Value))
    → gained_rows columns live rows ≡ only_in rows (rows_of live columns)
gained_rule columns live [] = refl
gained_rule columns live (row ∷ rows) =
    gained_step columns row live (gained_rows columns live rows)
    ∙ ap (λ rest. if has row_cmp row (rows_of live columns) then rest else row ∷ rest)
    (gained_rule columns live rows)

pub length-unpaired : {A B : Type 0} (xs : List A) (ys : List B)
    → length (unpaired xs ys) ≡ length xs - length ys
length-unpaired xs [] = grind arith
length-unpaired [] (y ∷ ys) = grind arith
length-unpaired (x ∷ xs) (y ∷ ys) = let e = length-unpaired xs ys in omega arith

pub key_count : (keys : List Span) (lost : List ℕ) (gained : List (List Value)) (stamp : ℕ)
    → length (keys_handed keys lost gained stamp) ≡ length keys + (length gained - length lost)
key_count keys lost gained stamp =
    length-end_keys (unpaired lost gained) stamp (keys ++ new_keys stamp (unpaired gained lost))
    ∙ length-append keys (new_keys stamp (unpaired gained lost))
    ∙ ap (λ n. length keys + n) (length-new_keys stamp (unpaired gained lost)
    ∙ length-unpaired gained lost)
