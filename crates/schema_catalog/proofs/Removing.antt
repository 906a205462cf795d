-- A list of tables without the one of a name.
use Rattle.std.proofs.Common.{◌≡◌, ◌<◌, ◌+◌, ℕ, Bool, true, false, List, [], ◌∷◌, ◌++◌, length}
use Rattle.std.proofs.Common.{take, get_or, refl, sym, ap, ◌∙◌}
use Rattle.std.specs.Prelude.{T, cond, not, if◌then◌else◌, Option, None}
use Rattle.std.specs.Ordering.{eq_by_cmp}
use Rattle.std.specs.FinMap.{is_sorted, find, remove, from_sorted, get-from_sorted, get-remove}
use Rattle.std.specs.FinMap.{same_map, slice_cmp-IsAntisymmetric, nat_cmp-IsAntisymmetric}
use Rattle.std.specs.FinMap.Entries.{where_key, find-where_key, is_sorted-where_key}
use Rattle.std.specs.Cmp.Lexicographic.{nat_list_cmp_total}
use Rattle.std.proofs.lemmas.Cmp.{eq_by_cmp_equiv}
use Rattle.std.proofs.lemmas.List.{take_more}
use Rattle.prima_base.specs.Order.{bytes_cmp, same}
use Rattle.prima_base.specs.OrderLaws.{bytes_exact}
use Rattle.prima_base.specs.Columns.{Column}
use Rattle.schema_catalog.specs.Tables.{Tables}
use Rattle.schema_catalog.specs.Places.{NamedColumns, EachAreColumns, AreTables}

module _ (p : List ℕ → Bool) where
  kept_more : (xs : List NamedColumns) (x : NamedColumns)
      → where_key bytes_cmp p (xs ++ x ∷ []) ≡ where_key bytes_cmp p xs ++ cond (p x.0) (x ∷ []) []
  kept_more [] x = elim (p x.0) as (λ b. cond b (x ∷ []) [] ≡ cond b (x ∷ []) []) [
    | true ↦ refl
    | false ↦ refl
  ]
  kept_more (y ∷ xs) x =
      elim (p y.0) as (λ b. cond b (y ∷ where_key bytes_cmp p (xs ++ x ∷ []))
      (where_key bytes_cmp p (xs ++ x ∷ []))
      ≡ cond b (y ∷ where_key bytes_cmp p xs) (where_key bytes_cmp p xs)
      ++ cond (p x.0) (x ∷ []) []) [
        | true ↦ ap (λ l. y ∷ l) (kept_more xs x)
        | false ↦ kept_more xs x
      ]

  here : (xs : List NamedColumns) (i : ℕ) (x : NamedColumns) → i < length xs → x ≡ get_or xs i x
      → where_key bytes_cmp p (take (i + 1) xs) ≡ where_key bytes_cmp p (take i xs)
      ++ cond (p x.0) (x ∷ []) []
  here xs i x l e = ap (where_key bytes_cmp p)
      (take_more xs i x l ∙ ap (λ d. take i xs ++ d ∷ []) (sym e)) ∙ kept_more (take i xs) x

  pub kept_one : (xs : List NamedColumns) (i : ℕ) (x : NamedColumns) → i < length xs
      → x ≡ get_or xs i x
      → where_key bytes_cmp p (take i xs) ++ cond (p x.0) (x ∷ []) []
      ≡ where_key bytes_cmp p (take (i + 1) xs)
  kept_one xs i x l e = sym (here xs i x l e)

  each_kept : (es : List NamedColumns) → EachAreColumns es
      → EachAreColumns (where_key bytes_cmp p es)
  each_kept [] h = tt
  each_kept (e ∷ es) h = elim (p e.0) as (λ b.
      EachAreColumns (cond b (e ∷ where_key bytes_cmp p es) (where_key bytes_cmp p es))) [
        | true ↦ (h.0, each_kept es h.1)
        | false ↦ each_kept es h.1
      ]

  pub still_tables : (es : List NamedColumns) → AreTables es → AreTables (where_key bytes_cmp p es)
  still_tables es h = record {
    sorted = is_sorted-where_key bytes_cmp p es h.sorted;
    columns =
        each_kept es h.columns;
  }

-- one table more, or the same where it has the name
nothing_more : (xs : List NamedColumns) → xs ++ [] ≡ xs
nothing_more [] = refl
nothing_more (x ∷ xs) = ap (λ l. x ∷ l) (nothing_more xs)

pub left_out : (items : List NamedColumns) (t : NamedColumns) (n : List ℕ) (r : Bool)
    → r ≡ same n t.0 → r ≡ true
    → items ≡ items ++ (if eq_by_cmp bytes_cmp n t.0 then [] else t ∷ [])
left_out items t n r e h =
    sym (nothing_more items) ∙ ap (λ (b : Bool). items ++ (if b then [] else t ∷ []))
    (sym h ∙ e)

pub put_after : (items : List NamedColumns) (t : NamedColumns) (n : List ℕ) (r : Bool)
    → r ≡ same n t.0 → r ≡ false
    → items ++ t ∷ [] ≡ items ++ (if eq_by_cmp bytes_cmp n t.0 then [] else t ∷ [])
put_after items t n r e h = ap (λ (b : Bool). items ++ (if b then [] else t ∷ []))
    (sym h ∙ e)

pub kept_unless : (n : List ℕ) (items xs : List NamedColumns) (i : ℕ) (x : NamedColumns)
    → i < length xs → x ≡ get_or xs i x
    → items ≡ where_key bytes_cmp (λ m. not (eq_by_cmp bytes_cmp n m)) (take i xs)
    → items ++ (if eq_by_cmp bytes_cmp n x.0 then [] else x ∷ [])
    ≡ where_key bytes_cmp (λ m. not (eq_by_cmp bytes_cmp n m)) (take (i + 1) xs)
kept_unless n items xs i x l e h =
    ap (λ (l : List NamedColumns). l ++ (if eq_by_cmp bytes_cmp n x.0 then [] else x ∷ [])) h
    ∙ ap (λ (l : List NamedColumns). where_key bytes_cmp (λ m. not (eq_by_cmp bytes_cmp n m))
    (take i xs) ++ l) (other_way (eq_by_cmp bytes_cmp n x.0))
    ∙ kept_one (λ m. not (eq_by_cmp bytes_cmp n m)) xs i x l e
  where
    other_way : (b : Bool) → (if b then [] else x ∷ []) ≡ cond (not b) (x ∷ []) []
    other_way true = refl
    other_way false = refl

pub where_key_is_remove : (n : List ℕ) (es : List NamedColumns) → T (is_sorted bytes_cmp es)
    → ◌≡◌ {A = Tables} (from_sorted (where_key bytes_cmp (λ m. not (eq_by_cmp bytes_cmp n m)) es))
    (remove (from_sorted es) n)
where_key_is_remove n es s = same_map nat_list_cmp_total
    (slice_cmp-IsAntisymmetric nat_cmp-IsAntisymmetric) _ _
    (λ q. get-from_sorted bytes_cmp (where_key bytes_cmp (λ m. not (eq_by_cmp bytes_cmp n m)) es) q
    (is_sorted-where_key bytes_cmp (λ m. not (eq_by_cmp bytes_cmp n m)) es s)
    ∙ find-where_key bytes_cmp (λ m. not (eq_by_cmp bytes_cmp n m)) q
    (λ x e. ap (λ m. not (eq_by_cmp bytes_cmp n m)) (sym (bytes_exact.same q x e))) es
    ∙ other_way (eq_by_cmp bytes_cmp n q) (find bytes_cmp q es)
    ∙ ap (λ b. cond b None (find bytes_cmp q es)) ((eq_by_cmp_equiv nat_list_cmp_total).symm n q)
    ∙ sym (get-remove nat_list_cmp_total (from_sorted es) n q
    ∙ ap (λ (g : Option (List Column)). cond (eq_by_cmp bytes_cmp q n) None g)
    (get-from_sorted bytes_cmp es q s)))
  where
    other_way : (b : Bool) (g : Option (List Column)) → cond (not b) g None ≡ cond b None g
    other_way true g = refl
    other_way false g = refl
