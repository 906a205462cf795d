-- Turns of rows in the order of their moments: what a stable sort leaves, and how they are cut.
use Rattle.std.specs.Prelude.{◌≡◌, ◌==◌, ◌≤◌, ◌<◌, ◌+◌, ◌++◌, ◌&&◌, ℕ, zero, suc, Bool, true, false}
use Rattle.std.specs.Prelude.{cond, not, List, [], ◌∷◌, map, take, drop, length, slice_index_or}
use Rattle.std.proofs.Common.{refl, sym, ap, subst, ◌∙◌, inl, inr, arith}
use Rattle.std.proofs.lemmas.List.{take-append-drop, map-append, length-drop}
use Rattle.std.proofs.lemmas.Bool.Decides.{nat_tests}
use Rattle.std.specs.List.{filter, flat_map, prefix_len}
use Rattle.std.specs.List.Sorted.{IsSortedByKey, IsStableByKey, ties}
use Rattle.std.specs.Ordering.{nat_cmp, is_lt}
use Rattle.relations_spec.specs.Sets.{In, Same, set_of}
use Rattle.relations_spec.proofs.SetLaws.{in_map, from_map, in_filter, from_filter, from_set}
use Rattle.relations_spec.proofs.SetLaws.{set_same}
use Rattle.smo_ops_types.specs.Changes.{PlainChange}
use Rattle.version_export_past_spec.specs.Commands.{if_any}
use Rattle.version_export.specs.declared.row_turn.RowTurn.{RowTurn}
use Rattle.version_export.specs.Turns.{Turn, moments_of, changes_at, commands_of, turn_of, change_of}
use Rattle.version_export.specs.Turns.{moment_of, Rises, is_of}
use Rattle.version_export.specs.Statements.{statement_of}
use Rattle.version_export.specs.Written.{text_at, row_statements, IsFirstRun}
use Rattle.version_export.proofs.ByListings.{nat_exact}
use Rattle.version_export.proofs.Turned.{same_on, same_moment, first_command}

-- ---- in order

not_less : (a b : ℕ) → is_lt (nat_cmp a b) ≡ false → b ≤ a
not_less a b e = grind (arith, nat_tests, e)

abbrev less : RowTurn → RowTurn → Bool
less t u = is_lt (nat_cmp (moment_of t) (moment_of u))

sorted_tail : (t : RowTurn) (ts : List RowTurn) → IsSortedByKey moment_of nat_cmp (t ∷ ts)
    → IsSortedByKey moment_of nat_cmp ts
sorted_tail t ts h k d z l =
    let e : suc k + 1 ≡ suc (k + 1) = omega arith in
    subst (λ n. less (slice_index_or (t ∷ ts) n d) (slice_index_or ts k d) ≡ false) e
    (h (suc k) d (omega arith) (omega (arith, l)))

rises_from : (t : RowTurn) (ts : List RowTurn) → IsSortedByKey moment_of nat_cmp (t ∷ ts)
    → Rises t.moment ts
rises_from t [] h = tt
rises_from t (u ∷ ts) h = (
  not_less u.moment t.moment (h 0 t (omega arith) (omega arith)),
  rises_from u ts (sorted_tail t (u ∷ ts) h),
)

pub rises : (ts : List RowTurn) → IsSortedByKey moment_of nat_cmp ts → Rises 0 ts
rises [] h = tt
rises (t ∷ ts) h = (omega arith, rises_from t ts h)

-- ---- a stable sort leaves the commands

tied : (a b : ℕ) → (not (is_lt (nat_cmp a b)) && not (is_lt (nat_cmp b a))) ≡ (b == a)
tied a b = grind (arith, nat_tests)

same_test : {X : Type 0} (p q : X → Bool) (xs : List X) → ((x : X) → p x ≡ q x)
    → filter p xs ≡ filter q xs
same_test p q [] h = refl
same_test {X} p q (x ∷ xs) h = λ i. cond (h x i) (x ∷ same_test p q xs h i) (same_test p q xs h i)

mapped_filter : {X Y : Type 0} (p : Y → Bool) (f : X → Y) (xs : List X)
    → filter p (map f xs) ≡ map f (filter (λ x. p (f x)) xs)
mapped_filter p f [] = refl
mapped_filter {X} {Y} p f (x ∷ xs) = step (p (f x)) (mapped_filter p f xs)
  where
    step : (b : Bool) → filter p (map f xs) ≡ map f (filter (λ y. p (f y)) xs)
        → cond b (f x ∷ filter p (map f xs)) (filter p (map f xs))
        ≡ map f (cond b (x ∷ filter (λ y. p (f y)) xs) (filter (λ y. p (f y)) xs))
    step true h = ap (λ l. f x ∷ l) h
    step false h = h

module _ (xs ys : List RowTurn) (stable : IsStableByKey moment_of nat_cmp xs ys) where
  same_at : (t : RowTurn) → filter (λ (u : RowTurn). u.moment == t.moment) ys
      ≡ filter (λ (u : RowTurn). u.moment == t.moment) xs
  same_at t = sym (same_test (ties less t) (λ (u : RowTurn). u.moment == t.moment) ys
      (λ u. tied t.moment u.moment))
      ∙ stable t
      ∙ same_test (ties less t) (λ (u : RowTurn). u.moment == t.moment) xs
      (λ u. tied t.moment u.moment)

  itself : (m : ℕ) → (m == m) ≡ true
  itself m = grind (arith, nat_tests)

  forth : (t : RowTurn) → In t ys → In t xs
  forth t i = (from_filter (λ (u : RowTurn). u.moment == t.moment) t xs
      (subst (λ (us : List RowTurn). In t us) (same_at t)
      (in_filter (λ (u : RowTurn). u.moment == t.moment) t ys i (itself t.moment)))).0

  back : (t : RowTurn) → In t xs → In t ys
  back t i = (from_filter (λ (u : RowTurn). u.moment == t.moment) t ys
      (subst (λ (us : List RowTurn). In t us) (sym (same_at t))
      (in_filter (λ (u : RowTurn). u.moment == t.moment) t xs i (itself t.moment)))).0

  -- a turn of the list, by its moment
  turn_in : (zs : List RowTurn) (m : ℕ) → In m (moments_of (map turn_of zs))
      → (t : RowTurn) × In t zs × (t.moment ≡ m)
  turn_in zs m i =
      let u = from_map (λ (t : Turn). t.0) m (map turn_of zs) i in
      let t = from_map turn_of u.0 zs u.1 in
      (t.0, t.1, ap (λ (v : Turn). v.0) t.2 ∙ u.2)

  moment_in : (zs : List RowTurn) (t : RowTurn) → In t zs
      → In t.moment (moments_of (map turn_of zs))
  moment_in zs t i = in_map (λ (u : Turn). u.0) (turn_of t) (map turn_of zs)
      (in_map turn_of t zs i)

  same_moments : Same (moments_of (map turn_of ys)) (moments_of (map turn_of xs))
  same_moments = record {
    there = λ m i. let t = turn_in ys m i in
        subst (λ (n : ℕ). In n (moments_of (map turn_of xs))) t.2
        (moment_in xs t.0 (forth t.0 t.1));
    back = λ m i. let t = turn_in xs m i in
        subst (λ (n : ℕ). In n (moments_of (map turn_of ys))) t.2
        (moment_in ys t.0 (back t.0 t.1));
  }

  changes_are : (zs : List RowTurn) (m : ℕ) → changes_at m (map turn_of zs)
      ≡ map (λ (t : Turn). t.1) (map turn_of (filter (λ (u : RowTurn). u.moment == m) zs))
  changes_are zs m = ap (map (λ (t : Turn). t.1))
      (mapped_filter (λ (t : Turn). t.0 == m) turn_of zs)

  same_changes : (m : ℕ) → In m (moments_of (map turn_of ys))
      → changes_at m (map turn_of ys) ≡ changes_at m (map turn_of xs)
  same_changes m i =
      let t = turn_in ys m i in
      changes_are ys m
      ∙ ap (λ (us : List RowTurn). map (λ (u : Turn). u.1) (map turn_of us))
      (subst (λ n. filter (λ (u : RowTurn). u.moment == n) ys
      ≡ filter (λ (u : RowTurn). u.moment == n) xs) t.2 (same_at t.0))
      ∙ sym (changes_are xs m)

  pub commands_stay : commands_of (map turn_of ys) ≡ commands_of (map turn_of xs)
  commands_stay =
      same_on (λ m. if_any m (changes_at m (map turn_of ys)))
      (λ m. if_any m (changes_at m (map turn_of xs))) (set_of nat_cmp (moments_of (map turn_of ys)))
      (λ m i. ap (if_any m) (same_changes m
      (from_set nat_cmp nat_exact m (moments_of (map turn_of ys)) i)))
      ∙ ap (flat_map (λ m. if_any m (changes_at m (map turn_of xs))))
      (set_same nat_cmp nat_exact (moments_of (map turn_of ys)) (moments_of (map turn_of xs))
      same_moments)

-- ---- the turns of the first moment

module _ {X : Type 0} (p : X → Bool) where
  one_more : (n : ℕ) → 1 + n ≡ suc n
  one_more n = omega arith

  all_pass : (xs : List X) (x : X) → In x (take (prefix_len p xs) xs) → p x ≡ true
  all_pass [] x m = absurd m
  all_pass (y ∷ xs) x m = step (all_pass xs x) (p y) refl m
    where
      step : (In x (take (prefix_len p xs) xs) → p x ≡ true) → (b : Bool) → p y ≡ b
          → In x (take (cond b (1 + prefix_len p xs) 0) (y ∷ xs)) → p x ≡ true
      step more true e i = elim (subst (λ n. In x (take n (y ∷ xs)))
          (one_more (prefix_len p xs)) i) [
            | inl q ↦ ap p (sym q) ∙ e
            | inr k ↦ more k
          ]
      step more false e i = absurd i

  -- where the first passes, it is cut off
  first_cut : (y : X) (xs : List X) → p y ≡ true
      → (take (prefix_len p (y ∷ xs)) (y ∷ xs) ≡ y ∷ take (prefix_len p xs) xs)
      × (drop (prefix_len p (y ∷ xs)) (y ∷ xs) ≡ drop (prefix_len p xs) xs)
  first_cut y xs e =
      let n : prefix_len p (y ∷ xs) ≡ suc (prefix_len p xs) =
      ap (λ b. cond b (1 + prefix_len p xs) 0) e ∙ one_more (prefix_len p xs) in
      (ap (λ k. take k (y ∷ xs)) n, ap (λ k. drop k (y ∷ xs)) n)

from_all : (low : ℕ) (ts : List RowTurn) → Rises low ts → (t : RowTurn) → In t ts → low ≤ t.moment
from_all low [] r t i = absurd i
from_all low (u ∷ ts) r t (inl e) = (let a = r.0 in let q = ap moment_of e in omega (arith, a, q))
from_all low (u ∷ ts) r t (inr i) = (let a = r.0 in let b = from_all u.moment ts r.1 t i in
    omega (arith, a, b))

lower : (low high : ℕ) (ts : List RowTurn) → low ≤ high → Rises high ts → Rises low ts
lower low high [] l r = tt
lower low high (t ∷ ts) l r = (let a = r.0 in omega (arith, a, l), r.1)

rises_later : (low n : ℕ) (ts : List RowTurn) → Rises low ts → Rises low (drop n ts)
rises_later low zero ts r = r
rises_later low (suc n) [] r = tt
rises_later low (suc n) (t ∷ ts) r = rises_later low n ts (lower low t.moment ts r.0 r.1)

above_rest : (m : ℕ) (ts : List RowTurn) → Rises m ts → (t : RowTurn)
    → In t (drop (prefix_len (is_of m) ts) ts) → m < t.moment
above_rest m [] r t i = absurd i
above_rest m (u ∷ ts) r t i = step (above_rest m ts) (u.moment == m) refl i
  where
    step : (Rises m ts → (v : RowTurn) → In v (drop (prefix_len (is_of m) ts) ts) → m < v.moment)
        → (b : Bool) → (u.moment == m) ≡ b
        → In t (drop (cond b (1 + prefix_len (is_of m) ts) 0) (u ∷ ts)) → m < t.moment
    step more true e j = more (subst (λ n. Rises n ts) (same_moment u.moment m e) r.1) t
        (subst (λ n. In t (drop n (u ∷ ts))) (one_more (is_of m) (prefix_len (is_of m) ts)) j)
    step more false e j =
        let a = from_all u.moment (u ∷ ts) (omega arith, r.1) t j in
        let b = r.0 in
        grind (arith, nat_tests, e, a, b)

module _ (t : RowTurn) (ts : List RowTurn) (r : Rises 0 (t ∷ ts)) where
  abbrev m : ℕ
  m = t.moment

  abbrev n : ℕ
  n = prefix_len (is_of m) (t ∷ ts)

  abbrev us : List RowTurn
  us = take (prefix_len (is_of m) ts) ts

  abbrev later : List RowTurn
  later = drop n (t ∷ ts)

  passes : is_of m t ≡ true
  passes = itself_is m
    where
      itself_is : (k : ℕ) → (k == k) ≡ true
      itself_is k = grind (arith, nat_tests)

  cut : (take n (t ∷ ts) ≡ t ∷ us) × (drop n (t ∷ ts) ≡ drop (prefix_len (is_of m) ts) ts)
  cut = first_cut (is_of m) t ts passes

  joined : map turn_of (t ∷ ts) ≡ map turn_of (t ∷ us) ++ map turn_of later
  joined = ap (map turn_of) (sym (take-append-drop n (t ∷ ts)))
      ∙ map-append turn_of (take n (t ∷ ts)) later
      ∙ ap (λ (now : List RowTurn). map turn_of now ++ map turn_of later) cut.0

  all_now : (u : Turn) → In u (map turn_of (t ∷ us)) → u.0 ≡ m
  all_now u i =
      let v = from_map turn_of u (t ∷ us) i in
      ap (λ (w : Turn). w.0) (sym v.2)
      ∙ same_moment v.0.moment m (all_pass (is_of m) (t ∷ ts) v.0
      (subst (λ (now : List RowTurn). In v.0 now) (sym cut.0) v.1))

  all_later : (u : Turn) → In u (map turn_of later) → m < u.0
  all_later u i =
      let v = from_map turn_of u later i in
      subst (λ k. m < k) (ap (λ (w : Turn). w.0) v.2)
      (above_rest m (t ∷ ts) (omega arith, r.1) v.0 v.1)

  changes_now : map (λ (u : Turn). u.1) (map turn_of (t ∷ us)) ≡ map change_of (t ∷ us)
  changes_now = each (t ∷ us)
    where
      each : (vs : List RowTurn)
          → map (λ (u : Turn). u.1) (map turn_of vs) ≡ map change_of vs
      each [] = refl
      each (v ∷ vs) = ap (λ (cs : List PlainChange). change_of v ∷ cs) (each vs)

  first_statement : row_statements (t ∷ ts) ≡ (m, text_at m (t ∷ us)) ∷ row_statements later
  first_statement = ap (λ (all : List Turn). map statement_of (commands_of all)) joined
      ∙ ap (map statement_of) (first_command m (map turn_of (t ∷ us)) (map turn_of later)
      all_now all_later (turn_of t) (inl refl))
      ∙ ap (λ (cs : List PlainChange). map statement_of (if_any m cs
      ++ commands_of (map turn_of later))) changes_now

  pub first_run_is : IsFirstRun (t ∷ ts) m (take n (t ∷ ts)) later
  first_run_is = record {
    statements = first_statement
        ∙ ap (λ (now : List RowTurn). (m, text_at m now) ∷ row_statements later) (sym cut.0);
    rises = rises_later 0 n (t ∷ ts) r;
    fewer = shorter;
  }
    where
      shorter : length later < length (t ∷ ts)
      shorter = (let e = ap (λ (xs : List RowTurn). length xs) cut.1 in
          let l = length-drop (prefix_len (is_of m) ts) ts in omega (arith, e, l))
