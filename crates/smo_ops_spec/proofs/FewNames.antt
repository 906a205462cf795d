-- Names that are known and stand once are no more than the columns.
use Rattle.std.proofs.Common.{◌≡◌, ◌≤◌, ◌+◌, ℕ, Bool, true, false, List, [], ◌∷◌, ◌++◌, length}
use Rattle.std.proofs.Common.{refl, sym, ap, subst, ◌∙◌, inl, inr, arith}
use Rattle.std.specs.Prelude.{◌||◌, cond, None}
use Rattle.std.specs.declared.cmp.Ordering.TheVariants.{Less}
use Rattle.relations_spec.specs.Sets.{In, Ascends, BeforeAll}
use Rattle.relations_spec.proofs.SetLaws.{before_in}
use Rattle.prima_base.specs.declared.refusal.Refusal.TheVariants.{NoColumn, ColumnExists}
use Rattle.prima_base.specs.Order.{bytes_cmp}
use Rattle.prima_base.specs.Columns.{Column, names_of, AreColumns}
use Rattle.smo_ops_spec.specs.First.{unless, where_so, first_refusal}
use Rattle.smo_ops_spec.specs.OneRow.{same}
use Rattle.smo_ops_spec.specs.Preconditions.{among}
use Rattle.smo_ops_spec.specs.Checks.{names_after, name_faults}
use Rattle.smo_ops_spec.proofs.Firsts.{none_of_first, met}
use Rattle.smo_ops_spec.proofs.NameLaws.{same_itself, same_turned, same_not, among_in}

-- how many of the columns stand before
counted : List (List ℕ) → List (List ℕ) → ℕ
counted [] before = 0
counted (y ∷ ys) before = cond (among y before) 1 0 + counted ys before

few : (b : Bool) → cond b 1 0 ≤ 1
few true = omega arith
few false = omega arith

counted_few : (ys before : List (List ℕ)) → counted ys before ≤ length ys
unfolding counted
counted_few [] before = omega arith
counted_few (y ∷ ys) before = (let h = few (among y before) in let k = counted_few ys before in
    omega arith)

counted_none : (ys : List (List ℕ)) → counted ys [] ≡ 0
unfolding counted
counted_none [] = refl
counted_none (y ∷ ys) = (let h = counted_none ys in omega arith)

-- one name more is among them where it is this one, or was before
pub one_later : (y n : List ℕ) (before : List (List ℕ))
    → among y (before ++ n ∷ []) ≡ (among y before || same y n)
one_later y n [] = step (same y n)
  where
    step : (b : Bool) → (b || false) ≡ (false || b)
    step true = refl
    step false = refl
one_later y n (m ∷ before) = step (same y m) (among y before) (same y n)
    (among y (before ++ n ∷ [])) (one_later y n before)
  where
    step : (a b c d : Bool) → d ≡ (b || c) → (a || d) ≡ ((a || b) || c)
    step true b c d e = refl
    step false b c d e = e

later : (y n : List ℕ) (before : List (List ℕ)) (b : Bool) → same y n ≡ false → among y before ≡ b
    → among y (before ++ n ∷ []) ≡ b
later y n before b s e = one_later y n before ∙ ap (λ c. c || same y n) e ∙ ap (λ c. b || c) s
    ∙ step b
  where
    step : (b : Bool) → (b || false) ≡ b
    step true = refl
    step false = refl

not_same : (n y : List ℕ) → bytes_cmp n y ≡ Less → same y n ≡ false
not_same n y e = same_turned y n ∙ same_not n y e

counted_later : (ys before : List (List ℕ)) (n : List ℕ) → BeforeAll bytes_cmp n ys
    → counted ys (before ++ n ∷ []) ≡ counted ys before
unfolding counted
counted_later [] before n b = refl
counted_later (y ∷ ys) before n b =
    ap (λ (c : Bool). cond c 1 0 + counted ys (before ++ n ∷ []))
    (later y n before (among y before) (not_same n y b.0) refl)
    ∙ ap (λ k. cond (among y before) 1 0 + k) (counted_later ys before n b.1)

counted_more : (ys before : List (List ℕ)) (n : List ℕ) → Ascends bytes_cmp ys → In n ys
    → among n before ≡ false → counted ys (before ++ n ∷ []) ≡ counted ys before + 1
unfolding counted
counted_more [] before n a m e = absurd m
counted_more (y ∷ ys) before n a (inl q) e =
    let was : among y before ≡ false = ap (λ (x : List ℕ). among x before) q ∙ e in
    let now : among y (before ++ n ∷ []) ≡ true = one_later y n before ∙ ap (λ c. c || same y n) was
    ∙ ap (same y) (sym q) ∙ same_itself y in
    let rest : counted ys (before ++ n ∷ []) ≡ counted ys before =
    counted_later ys before n (subst (λ (x : List ℕ). BeforeAll bytes_cmp x ys) q a.0) in
    step (among y (before ++ n ∷ [])) (among y before) (counted ys (before ++ n ∷ []))
    (counted ys before) now was rest
  where
    step : (c d : Bool) (j k : ℕ) → c ≡ true → d ≡ false → j ≡ k
        → cond c 1 0 + j ≡ (cond d 1 0 + k) + 1
    step true false j k p q r = omega arith
    step true true j k p q r = absurd (cc)
    step false d j k p q r = absurd (cc)
counted_more (y ∷ ys) before n a (inr m) e =
    let other : among y (before ++ n ∷ []) ≡ among y before =
    later y n before (among y before) (same_not y n (before_in bytes_cmp y n ys a.0 m)) refl in
    step (among y (before ++ n ∷ [])) (among y before) (counted ys (before ++ n ∷ []))
    (counted ys before) other (counted_more ys before n a.1 m e)
  where
    step : (c d : Bool) (j k : ℕ) → c ≡ d → j ≡ k + 1 → cond c 1 0 + j ≡ (cond d 1 0 + k) + 1
    step true true j k p r = omega arith
    step false false j k p r = omega arith
    step true false j k p r = absurd (cc)
    step false true j k p r = absurd (cc)

not_so : {R : Type 0} (b : Bool) (r : R) → where_so b r ≡ None → b ≡ false
not_so true r e = absurd (cc)
not_so false r e = refl

few_after : (t : List ℕ) (columns : List Column) (before names : List (List ℕ)) → AreColumns columns
    → first_refusal (names_after t columns before names) ≡ None
    → counted (names_of columns) before + length names ≤ length (names_of columns)
few_after t columns before [] a e = (let h = counted_few (names_of columns) before in omega arith)
few_after t columns before (n ∷ names) a e =
    let first = none_of_first (where_so (among n before) (ColumnExists t n))
    (unless (among n (names_of columns)) (NoColumn n)
    ∷ names_after t columns (before ++ n ∷ []) names) e in
    let second = none_of_first (unless (among n (names_of columns)) (NoColumn n))
    (names_after t columns (before ++ n ∷ []) names) first.1 in
    let known = among_in n (names_of columns)
    (met (among n (names_of columns)) (NoColumn n) second.0) in
    let more = counted_more (names_of columns) before n a known
    (not_so (among n before) (ColumnExists t n) first.0) in
    let rest = few_after t columns (before ++ n ∷ []) names a second.1 in
    omega arith

length_names : (columns : List Column) → length (names_of columns) ≡ length columns
length_names [] = refl
length_names (c ∷ columns) = (let h = length_names columns in omega arith)

pub few_names : (t : List ℕ) (columns : List Column) (names : List (List ℕ)) → AreColumns columns
    → first_refusal (name_faults t columns names) ≡ None → length names ≤ length columns
few_names t columns names a e =
    let h = few_after t columns [] names a e in
    let k = counted_none (names_of columns) in
    let l = length_names columns in
    omega arith
