-- Rows that come to an index, but for those that are there.
use Rattle.std.proofs.Common.{◌≡◌, ℕ, ◌+◌, ◌<◌, ◌≤◌, true, false, List, [], ◌∷◌, ◌++◌, length}
use Rattle.std.proofs.Common.{get_or, refl, sym, ap, ◌∙◌, subst, arith, append_assoc, length-append}
use Rattle.std.proofs.Common.{Bool, inl, inr}
use Rattle.std.specs.Prelude.{if◌then◌else◌}
use Rattle.std.specs.declared.cmp.Ordering.TheVariants.{Less, Greater}
use Rattle.std.proofs.lemmas.List.{append-nil}
use Rattle.relations_spec.specs.Sets.{In, Ascends, has}
use Rattle.relations_spec.proofs.SetLaws.{before_in, below_each, in_has, has_in}
use Rattle.prima_base.specs.Order.{row_cmp}
use Rattle.prima_base.specs.OrderLaws.{row_exact}
use Rattle.prima_base.specs.declared.value.Value.{Value}
use Rattle.history_store_columns.specs.Log.{Write}
use Rattle.prima_base.specs.Columns.{Column, IsRelation}
use Rattle.history_store_row_order.specs.Rows.{row_now, rows_of}
use Rattle.history_store_row_order.specs.Handing.{handed, only_in}
use Rattle.history_store_row_order.specs.Splices.{IsJoined}
use Rattle.history_store_row_order.specs.Indexes.{with_each}
use Rattle.history_store_value_order.proofs.Places.{not_true}
use Rattle.history_store_row_order.proofs.Places.{Come, come_first, come_next, come_all}

pub from_only : (row : List Value) (rows others : List (List Value)) → In row (only_in rows others)
    → In row rows × (has row_cmp row others ≡ false)
from_only row [] others i = absurd i
from_only row (r ∷ rows) others i = by_case (has row_cmp r others) refl i
    (from_only row rows others)
  where
    by_case : (b : Bool) → has row_cmp r others ≡ b
        → In row (if b then only_in rows others else r ∷ only_in rows others)
        → (In row (only_in rows others) → In row rows × (has row_cmp row others ≡ false))
        → In row (r ∷ rows) × (has row_cmp row others ≡ false)
    by_case true t i again = let p = again i in (inr p.0, p.1)
    by_case false t (inl e) again = (inl e, ap (λ x. has row_cmp x others) (sym e) ∙ t)
    by_case false t (inr i) again = let p = again i in (inr p.0, p.1)

pub only_ascends : (rows others : List (List Value)) → Ascends row_cmp rows
    → Ascends row_cmp (only_in rows others)
only_ascends [] others a = tt
only_ascends (row ∷ rows) others a =
    let again = only_ascends rows others a.1 in
    elim (has row_cmp row others) as (λ b. Ascends row_cmp
    (if b then only_in rows others else row ∷ only_in rows others)) [
      | true ↦ again
      | false ↦ (
        below_each row_cmp row (only_in rows others)
            (λ y i. before_in row_cmp row y rows a.0 (from_only y rows others i).0),
        again,
      )
    ]

pub only_relation : (columns : List Column) (rows others : List (List Value))
    → IsRelation columns rows → IsRelation columns (only_in rows others)
only_relation columns rows others r = record {
  ascending = only_ascends rows others r.ascending;
  fitting = λ row i. r.fitting row (from_only row rows others i).0;
}

pub no_relation : (columns : List Column) → IsRelation columns []
no_relation columns = record { ascending = tt; fitting = λ row i. absurd i }

-- those that have come so far, and those that are left
module _ (columns : List (List Write)) (live : List ℕ) (next : ℕ) (rows : List (List Value)) where
  abbrev there : List (List Value)
  there = rows_of live columns

  abbrev all : List (List Value)
  all = only_in rows there

  pub record AreFresh (to : List (ℕ × ℕ)) (gained left : List (List Value)) : Type 0 where
    pub come : Come columns live [] (handed [] next all) to
        (handed [] (next + length gained) (only_in left there)) all (only_in left there)
    pub found : all ≡ gained ++ only_in left there
    pub count : length to ≡ length gained

  pub fresh_first : Ascends row_cmp there → Ascends row_cmp rows → AreFresh [] [] rows
  fresh_first a b =
      let n : next ≡ next + 0 = omega arith in
      record {
        come = subst (λ k. Come columns live [] (handed [] next all) [] (handed [] k all) all all) n
            (come_first columns live [] (handed [] next all) all a (only_ascends rows there b)
            (λ y i j. let t : has row_cmp y there ≡ true = in_has row_cmp row_exact y there j in
            let f = (from_only y rows there i).1 in absurd (cc)));
        found = refl;
        count = refl;
      }

  -- a row that is there comes not again
  pub fresh_passed : (to : List (ℕ × ℕ)) (gained left : List (List Value)) (row : List Value)
      → In row there → AreFresh to gained (row ∷ left) → AreFresh to gained left
  fresh_passed to gained left row i f =
      let e : only_in (row ∷ left) there ≡ only_in left there =
      rw (in_has row_cmp row_exact row there i) refl in
      record {
        come = subst (λ ls. Come columns live [] (handed [] next all) to
            (handed [] (next + length gained) ls) all ls) e f.come;
        found = f.found ∙ ap (λ ls. gained ++ ls) e;
        count = f.count;
      }

  pub fresh_more : (to : List (ℕ × ℕ)) (gained left : List (List Value)) (row : List Value) (at : ℕ)
      → (In row there → ⊥) → AreFresh to gained (row ∷ left)
      → at ≤ length live → ((k : ℕ) → k < at → row_cmp (row_now (get_or live k 0) columns) row
      ≡ Less) → ((k : ℕ) → at ≤ k → k < length live
      → row_cmp (row_now (get_or live k 0) columns) row ≡ Greater)
      → AreFresh (to ++ (at, next + length gained) ∷ []) (gained ++ row ∷ []) left
  fresh_more to gained left row at n f w before after =
      let t : has row_cmp row there ≡ false =
      not_true (has row_cmp row there) (λ h. n (has_in row_cmp row_exact row there h)) in
      let e : only_in (row ∷ left) there ≡ row ∷ only_in left there = rw t refl in
      let c = subst (λ ls. Come columns live [] (handed [] next all) to
      (handed [] (next + length gained) ls) all ls) e f.come in
      let m : (next + length gained) + 1 ≡ next + length (gained ++ row ∷ []) =
      (let l = length-append gained (row ∷ []) in omega (arith, l)) in
      let l = length-append to ((at, next + length gained) ∷ []) in
      let g = length-append gained (row ∷ []) in
      let q = f.count in
      record {
        come = subst (λ k. Come columns live [] (handed [] next all)
            (to ++ (at, next + length gained) ∷ []) (handed [] k (only_in left there)) all
            (only_in left there)) m
            (come_next columns live [] (handed [] next all) all to
            (handed [] ((next + length gained) + 1) (only_in left there)) (next + length gained)
            (only_in left there) row at tt c w before after);
        found = f.found ∙ ap (λ ls. gained ++ ls) e
            ∙ sym (append_assoc gained (row ∷ []) (only_in left there));
        count = omega (arith, l, g, q);
      }

  pub fresh_are : (to : List (ℕ × ℕ)) (gained : List (List Value)) → AreFresh to gained []
      → gained ≡ all
  fresh_are to gained f = sym (f.found ∙ append-nil gained)

  pub fresh_joined : (to : List (ℕ × ℕ)) (gained : List (List Value)) → AreFresh to gained []
      → IsJoined columns live (handed [] next gained) (with_each to live) gained
  fresh_joined to gained f = subst (λ g. IsJoined columns live (handed [] next g)
      (with_each to live) g) (sym (fresh_are to gained f))
      (come_all columns live [] (handed [] next all) all to f.come)
