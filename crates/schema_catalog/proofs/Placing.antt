-- What the place of a name tells of the map.
use Rattle.std.proofs.Common.{◌≡◌, ◌<◌, ◌≤◌, ℕ, zero, suc, List, [], ◌∷◌, length, refl, sym, ap}
use Rattle.std.proofs.Common.{◌∙◌, arith, get_or, set}
use Rattle.std.specs.Prelude.{T, cond, Some, None, Result, Ok, Err}
use Rattle.std.specs.List.{insert}
use Rattle.std.specs.Ordering.{is_eq}
use Rattle.std.specs.declared.cmp.Ordering.TheVariants.{Less, Equal, Greater}
use Rattle.std.specs.FinMap.{is_sorted, put, find}
use Rattle.std.specs.FinMap.Entries.{below_all, by_order}
use Rattle.prima_base.specs.Order.{bytes_cmp}
use Rattle.std.specs.Cmp.Lexicographic.{nat_list_cmp_total}
use Rattle.std.specs.List.Sorted.{IsSearchInRange, IsBinarySearchResult}
use Rattle.std.proofs.lemmas.List.Sorted.{searchable_from_sorted}
use Rattle.prima_base.specs.OrderLaws.{bytes_exact}
use Rattle.prima_base.specs.Columns.{Column}
use Rattle.schema_catalog.specs.Places.{NamedColumns, IsPlace}
use Rattle.schema_catalog.proofs.Sorting.{first, second, turned, below_at, rises}

-- each table before the place has a lesser name, and each from it on a greater one
module _ (n : List ℕ) (v : List Column) where
  pub put_at_gap : (es : List NamedColumns) (i : ℕ) → i ≤ length es
      → ((k : ℕ) (d : NamedColumns) → k < i → bytes_cmp (get_or es k d).0 n ≡ Less)
      → ((k : ℕ) (d : NamedColumns) → i ≤ k → k < length es
      → bytes_cmp (get_or es k d).0 n ≡ Greater)
      → put bytes_cmp n v es ≡ insert es i (n, v)
  put_at_gap [] zero l h g = refl
  put_at_gap [] (suc i) l h g = absurd (omega arith)
  put_at_gap (e ∷ es) zero l h g =
      let b : bytes_cmp n e.0 ≡ Less = turned e.0 n Greater (g 0 e (omega arith) (omega arith)) in
      ap (λ o. by_order o ((n, v) ∷ e ∷ es) ((e.0, v) ∷ es) (e ∷ put bytes_cmp n v es)) b
  put_at_gap (e ∷ es) (suc i) l h g =
      let b : bytes_cmp n e.0 ≡ Greater = turned e.0 n Less (h 0 e (omega arith)) in
      ap (λ o. by_order o ((n, v) ∷ e ∷ es) ((e.0, v) ∷ es) (e ∷ put bytes_cmp n v es)) b
      ∙ ap (λ l. e ∷ l) (put_at_gap es i (omega arith) (λ k d p. h (suc k) d (omega arith))
      (λ k d p q. g (suc k) d (omega arith) (omega arith)))

  pub none_at_gap : (es : List NamedColumns) (i : ℕ) → i ≤ length es
      → ((k : ℕ) (d : NamedColumns) → k < i → bytes_cmp (get_or es k d).0 n ≡ Less)
      → ((k : ℕ) (d : NamedColumns) → i ≤ k → k < length es
      → bytes_cmp (get_or es k d).0 n ≡ Greater)
      → find bytes_cmp n es ≡ None
  none_at_gap [] i l h g = refl
  none_at_gap (e ∷ es) zero l h g =
      let b : bytes_cmp n e.0 ≡ Less = turned e.0 n Greater (g 0 e (omega arith) (omega arith)) in
      ap (λ o. cond (is_eq o) (Some e.1) (find bytes_cmp n es)) b
      ∙ none_at_gap es 0 (omega arith) (λ k d p. absurd (omega arith))
      (λ k d p q. g (suc k) d (omega arith) (omega arith))
  none_at_gap (e ∷ es) (suc i) l h g =
      let b : bytes_cmp n e.0 ≡ Greater = turned e.0 n Less (h 0 e (omega arith)) in
      ap (λ o. cond (is_eq o) (Some e.1) (find bytes_cmp n es)) b
      ∙ none_at_gap es i (omega arith) (λ k d p. h (suc k) d (omega arith))
      (λ k d p q. g (suc k) d (omega arith) (omega arith))

  -- the table at the place has the name
  before_found : (e : NamedColumns) (es : List NamedColumns) (i : ℕ)
      → T (is_sorted bytes_cmp (e ∷ es)) → i < length es
      → bytes_cmp (get_or es i e).0 n ≡ Equal → bytes_cmp n e.0 ≡ Greater
  before_found e es i s l h =
      turned e.0 n Less (ap (bytes_cmp e.0) (sym (bytes_exact.same (get_or es i e).0 n h))
      ∙ below_at e.0 es i e (first _ _ s) l)

  pub put_at_found : (es : List NamedColumns) (i : ℕ) → T (is_sorted bytes_cmp es) → i < length es
      → ((d : NamedColumns) → bytes_cmp (get_or es i d).0 n ≡ Equal)
      → put bytes_cmp n v es ≡ set es i (n, v)
  put_at_found [] i s l h = absurd (omega arith)
  put_at_found (e ∷ es) zero s l h =
      let b : bytes_cmp n e.0 ≡ Equal = turned e.0 n Equal (h e) in
      ap (λ o. by_order o ((n, v) ∷ e ∷ es) ((e.0, v) ∷ es) (e ∷ put bytes_cmp n v es)) b
      ∙ ap (λ (m : List ℕ). (m, v) ∷ es) (bytes_exact.same e.0 n (h e))
  put_at_found (e ∷ es) (suc i) s l h =
      let b : bytes_cmp n e.0 ≡ Greater = before_found e es i s (omega arith) (h e) in
      ap (λ o. by_order o ((n, v) ∷ e ∷ es) ((e.0, v) ∷ es) (e ∷ put bytes_cmp n v es)) b
      ∙ ap (λ l. e ∷ l) (put_at_found es i (second (below_all bytes_cmp e.0 es) _ s) (omega arith)
      h)

pub found_at : (n : List ℕ) (es : List NamedColumns) (i : ℕ) (d : NamedColumns)
    → T (is_sorted bytes_cmp es) → i < length es
    → ((d : NamedColumns) → bytes_cmp (get_or es i d).0 n ≡ Equal)
    → find bytes_cmp n es ≡ Some (get_or es i d).1
found_at n [] i d s l h = absurd (omega arith)
found_at n (e ∷ es) zero d s l h =
    let b : bytes_cmp n e.0 ≡ Equal = turned e.0 n Equal (h e) in
    ap (λ o. cond (is_eq o) (Some e.1) (find bytes_cmp n es)) b
found_at n (e ∷ es) (suc i) d s l h =
    let b : bytes_cmp n e.0 ≡ Greater = before_found n [] e es i s (omega arith) (h e) in
    ap (λ o. cond (is_eq o) (Some e.1) (find bytes_cmp n es)) b
    ∙ found_at n es i d (second (below_all bytes_cmp e.0 es) _ s) (omega arith) h

-- what a binary search answers
pub placed : (es : List NamedColumns) (n : List ℕ) (r : Result ℕ ℕ) → T (is_sorted bytes_cmp es)
    → IsSearchInRange r (length es) → IsBinarySearchResult (λ (t : NamedColumns). bytes_cmp t.0 n)
    es r → IsPlace es n r
placed es n (Ok i) s bound h = (bound, h)
placed es n (Err i) s bound h =
    let parts = h (searchable_from_sorted nat_list_cmp_total (λ (t : NamedColumns). t.0) es n
    (rises es s)) in
    (bound, λ k d l. parts.0 k d (omega arith) l, λ k d g l. parts.1 k d g l)
