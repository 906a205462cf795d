-- A list of sizes with one put in its place, or behind the others.
use Rattle.std.proofs.Common.{◌≡◌, ◌+◌, ◌<◌, ◌≤◌, ℕ, suc, Bool, true, false, List, [], ◌∷◌, ◌++◌, length}
use Rattle.std.proofs.Common.{refl, ap, sym, subst, ◌∙◌, arith, nat_lt, position, slice_set}
use Rattle.std.proofs.Common.{slice_index_or}
use Rattle.std.specs.Prelude.{cond, not, if◌then◌else◌, Some, None}
use Rattle.std.specs.List.{position_or_len}
use Rattle.std.proofs.lemmas.Bool.Decides.{nat_tests}
use Rattle.prima_base.specs.OrderLaws.{same_is}
use Rattle.smo_ops_spec.specs.OneRow.{same}
use Rattle.smo_ops_widths.specs.Widths.{sized_as}
use Rattle.smo_ops_widths.specs.Counted.{size_in}

abbrev SizeList : Type 0
SizeList = List (List ℕ × ℕ)

module _ (name : List ℕ) (size : ℕ) where
  abbrev is : List ℕ × ℕ → Bool
  is e = same name e.0

  abbrev at : SizeList → ℕ
  at xs = position_or_len (λ (e : List ℕ × ℕ). same name e.0) xs

  -- behind one that has another name
  beside : (x : List ℕ × ℕ) (n : List ℕ) (a b : ℕ) → same name x.0 ≡ false
      → a ≡ (if same n name then size else b)
      → (if same n x.0 then x.1 else a)
      ≡ (if same n name then size else if same n x.0 then x.1 else b)
  beside x n a b f h = step (same n x.0) refl (same n name) refl h
    where
      step : (c : Bool) → same n x.0 ≡ c → (d : Bool) → same n name ≡ d
          → a ≡ (if d then size else b)
          → (if c then x.1 else a) ≡ (if d then size else if c then x.1 else b)
      step true p true q h =
          let other = sym p ∙ ap (λ (m : List ℕ). same m x.0) (same_is n name q) ∙ f in
          absurd (cc)
      step true p false q h = refl
      step false p d q h = h

  -- in its place
  first : (x e : List ℕ × ℕ) (xs : SizeList) (n : List ℕ) → same name x.0 ≡ true → e ≡ x
      → size_in ((e.0, size) ∷ xs) n ≡ sized_as name size (size_in (x ∷ xs)) n
  first x e xs n t h =
      ap (λ (m : List ℕ). if same n m then size else size_in xs n)
      (ap (λ (y : List ℕ × ℕ). y.0) h ∙ sym (same_is name x.0 t)) ∙ step (same n name) refl
    where
      step : (d : Bool) → same n name ≡ d → (if d then size else size_in xs n)
          ≡ (if d then size else if same n x.0 then x.1 else size_in xs n)
      step true q = refl
      step false q = sym (ap (λ (c : Bool). if c then x.1 else size_in xs n)
          (sym (ap (same n) (same_is name x.0 t)) ∙ q))

  put_there : (xs : SizeList) → at xs < length xs → (e : List ℕ × ℕ)
      → e ≡ slice_index_or xs (at xs) e → (n : List ℕ)
      → size_in (slice_set xs (at xs) (e.0, size)) n ≡ sized_as name size (size_in xs) n
  put_there [] l e h n = absurd (omega (arith, l))
  put_there (x ∷ xs) l e h n =
      step (λ l h. put_there xs l e h n) (same name x.0) refl l h
    where
      step : (at xs < length xs → e ≡ slice_index_or xs (at xs) e
          → size_in (slice_set xs (at xs) (e.0, size)) n ≡ sized_as name size (size_in xs) n)
          → (b : Bool) → same name x.0 ≡ b → cond (not b) (1 + at xs) 0 < suc (length xs)
          → e ≡ slice_index_or (x ∷ xs) (cond (not b) (1 + at xs) 0) e
          → size_in (slice_set (x ∷ xs) (cond (not b) (1 + at xs) 0) (e.0, size)) n
          ≡ sized_as name size (size_in (x ∷ xs)) n
      step more true t l h = first x e xs n t h
      step more false f l h =
          let next : suc (at xs) ≡ 1 + at xs = omega arith in
          let there = subst (λ (j : ℕ). e ≡ slice_index_or (x ∷ xs) j e) (sym next) h in
          subst (λ (j : ℕ). size_in (slice_set (x ∷ xs) j (e.0, size)) n
          ≡ sized_as name size (size_in (x ∷ xs)) n) next
          (beside x n (size_in (slice_set xs (at xs) (e.0, size)) n) (size_in xs n) f
          (more (omega (arith, l)) there))

  less : (a b : ℕ) → nat_lt a b ≡ true → a < b
  less a b e = grind (arith, nat_tests)

  not_less : (a b : ℕ) → nat_lt a b ≡ false → b ≤ a
  not_less a b e = grind (arith, nat_tests)

  put_at : (xs : SizeList) (b : Bool) → nat_lt (at xs) (length xs) ≡ b → (i : ℕ)
      → cond b (Some (at xs)) None ≡ Some i → (e : List ℕ × ℕ) → e ≡ slice_index_or xs i e
      → (n : List ℕ) → size_in (slice_set xs i (e.0, size)) n ≡ sized_as name size (size_in xs) n
  put_at xs true l i p e h n =
      let same_place : at xs ≡ i = cc in
      subst (λ (j : ℕ). e ≡ slice_index_or xs j e → size_in (slice_set xs j (e.0, size)) n
      ≡ sized_as name size (size_in xs) n) same_place
      (λ k. put_there xs (less (at xs) (length xs) l) e k n) h
  put_at xs false l i p e h n = absurd (cc)

  pub put_in_place : (xs : SizeList) (i : ℕ)
      → position (λ (e : List ℕ × ℕ). same name e.0) xs ≡ Some i → (e : List ℕ × ℕ)
      → e ≡ slice_index_or xs i e → (n : List ℕ)
      → size_in (slice_set xs i (e.0, size)) n ≡ sized_as name size (size_in xs) n
  put_in_place xs i p e h n = put_at xs (nat_lt (at xs) (length xs)) refl i p e h n

  -- behind the others, where none of them has its name; and where none has, 1 need not be said
  nowhere : (xs : SizeList) (b : Bool) → nat_lt (at xs) (length xs) ≡ b
      → cond b (Some (at xs)) None ≡ None → length xs ≤ at xs
  nowhere xs true l p = absurd (cc)
  nowhere xs false l p = not_less (at xs) (length xs) l

  behind : (xs : SizeList) → length xs ≤ at xs → (m : List ℕ) → m ≡ name → (n : List ℕ)
      → size_in (xs ++ (m, size) ∷ []) n ≡ sized_as name size (size_in xs) n
  behind [] l m e n = ap (λ (k : List ℕ). if same n k then size else 1) e
  behind (x ∷ xs) l m e n = step (λ l. behind xs l m e n) (same name x.0) refl l
    where
      step : (length xs ≤ at xs
          → size_in (xs ++ (m, size) ∷ []) n ≡ sized_as name size (size_in xs) n) → (b : Bool) → same name x.0 ≡ b → suc (length xs) ≤ cond (not b) (1 + at xs) 0
          → size_in (x ∷ xs ++ (m, size) ∷ []) n ≡ sized_as name size (size_in (x ∷ xs)) n
      step more true t l = absurd (omega (arith, l))
      step more false f l = beside x n (size_in (xs ++ (m, size) ∷ []) n) (size_in xs n) f
          (more (omega (arith, l)))

  pub put_behind : (xs : SizeList)
      → position (λ (e : List ℕ × ℕ). same name e.0) xs ≡ None → (m : List ℕ) → m ≡ name
      → (n : List ℕ) → size_in (xs ++ (m, size) ∷ []) n ≡ sized_as name size (size_in xs) n
  put_behind xs p m e n = behind xs (nowhere xs (nat_lt (at xs) (length xs)) refl p) m e n

  left : size ≡ 1 → (xs : SizeList) → length xs ≤ at xs → (n : List ℕ)
      → size_in xs n ≡ sized_as name size (size_in xs) n
  left one [] l n = step (same n name)
    where
      step : (d : Bool) → 1 ≡ (if d then size else 1)
      step true = sym one
      step false = refl
  left one (x ∷ xs) l n = step (λ l. left one xs l n) (same name x.0) refl l
    where
      step : (length xs ≤ at xs → size_in xs n ≡ sized_as name size (size_in xs) n)
          → (b : Bool) → same name x.0 ≡ b → suc (length xs) ≤ cond (not b) (1 + at xs) 0
          → size_in (x ∷ xs) n ≡ sized_as name size (size_in (x ∷ xs)) n
      step more true t l = absurd (omega (arith, l))
      step more false f l = beside x n (size_in xs n) (size_in xs n) f (more (omega (arith, l)))

  pub put_nowhere : size ≡ 1 → (xs : SizeList)
      → position (λ (e : List ℕ × ℕ). same name e.0) xs ≡ None → (n : List ℕ)
      → size_in xs n ≡ sized_as name size (size_in xs) n
  put_nowhere one xs p n = left one xs (nowhere xs (nat_lt (at xs) (length xs)) refl p) n
