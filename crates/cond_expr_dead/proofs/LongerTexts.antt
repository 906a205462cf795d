-- A text with one byte after it: how it compares, and when it is the next one.
use Rattle.std.proofs.Common.{◌≡◌, ℕ, suc, ◌+◌, ◌<◌, ◌≤◌, true, false, List, [], ◌∷◌, ◌++◌, length}
use Rattle.std.proofs.Common.{take, drop, get_or, drop-cons, add-one, refl, sym, ap, ◌∙◌, arith}
use Rattle.std.specs.Prelude.{◌==◌, ◌||◌, not, nat_lt, pos, ◌+ℤ◌, ◌-◌, ◌^◌, ◌<ℤ◌, ◌≤ℤ◌, ℤ, Some}
use Rattle.std.specs.Prelude.{None}
use Rattle.std.proofs.lemmas.Bool.{cond-true, cond-false, and_right, and_left, and_from, lt-ltb}
use Rattle.std.proofs.lemmas.Bool.{le-ltb}
use Rattle.std.proofs.lemmas.Cmp.{int_ranked, by_ranked}
use Rattle.std.proofs.lemmas.Int.{ints}
use Rattle.std.proofs.lemmas.List.{take-append-drop, length-take-le, length-drop, take_all}
use Rattle.std.specs.declared.cmp.Ordering.{Ordering}
use Rattle.std.specs.declared.cmp.Ordering.TheVariants.{Less, Equal, Greater}
use Rattle.std.specs.Ordering.{nat_cmp, int_cmp, is_lt, ordering_then}
use Rattle.prima_base.specs.declared.value.Value.TheVariants.{Int, Text}
use Rattle.prima_base.specs.Order.{bytes_cmp}
use Rattle.cond_expr_dead.specs.Steps.{raised, all_top, raise, next, has_next, following}
use Rattle.cond_expr_dead.specs.Steps.{following_text}

-- ---- how it compares

then_assoc : (a b c : Ordering) → ordering_then a (ordering_then b c)
    ≡ ordering_then (ordering_then a b) c
then_assoc Less b c = refl
then_assoc Equal b c = refl
then_assoc Greater b c = refl

pub to_shorter : (f d : List ℕ) (x : ℕ) → length d ≤ length f
    → bytes_cmp (f ++ x ∷ []) d ≡ ordering_then (bytes_cmp f d) Greater
to_shorter [] [] x h = refl
to_shorter [] (e ∷ d) x h = absurd (omega arith)
to_shorter (b ∷ f) [] x h = refl
to_shorter (b ∷ f) (e ∷ d) x h = ap (ordering_then (nat_cmp b e)) (to_shorter f d x (omega arith))
    ∙ then_assoc (nat_cmp b e) (bytes_cmp f d) Greater

as_long : (f s r : List ℕ) (x : ℕ) → length s ≡ length f
    → bytes_cmp (f ++ x ∷ []) (s ++ r) ≡ ordering_then (bytes_cmp f s) (bytes_cmp (x ∷ []) r)
as_long [] [] r x h = refl
as_long [] (e ∷ s) r x h = absurd (omega arith)
as_long (b ∷ f) [] r x h = absurd (omega arith)
as_long (b ∷ f) (e ∷ s) r x h = ap (ordering_then (nat_cmp b e)) (as_long f s r x (omega arith))
    ∙ then_assoc (nat_cmp b e) (bytes_cmp f s) (bytes_cmp (x ∷ []) r)

pub to_longer : (f d : List ℕ) (x : ℕ) → length f ≤ length d
    → bytes_cmp (f ++ x ∷ []) d ≡ ordering_then (bytes_cmp f (take (length f) d))
    (bytes_cmp (x ∷ []) (drop (length f) d))
to_longer f d x h =
    ap (bytes_cmp (f ++ x ∷ [])) (sym (take-append-drop (length f) d))
    ∙ as_long f (take (length f) d) (drop (length f) d) x (length-take-le (length f) d h)

-- ---- the last low byte

pub top_more : (t : List ℕ) (p : ℕ) → p < length t → (get_or t p 0 == 255) ≡ true
    → all_top (drop (p + 1) t) ≡ true → all_top (drop p t) ≡ true
top_more t p l e h =
    ap all_top (drop-cons t p 0 l)
    ∙ and_from (get_or t p 0 == 255) (all_top (drop (suc p) t)) e
    (ap (λ n. all_top (drop n t)) (sym (add-one p)) ∙ h)

raise_split : (f r : List ℕ) (b : ℕ) → (b == 255) ≡ false → all_top r ≡ true
    → (all_top (f ++ b ∷ r) ≡ false) × (raise (f ++ b ∷ r) ≡ f ++ raised b ∷ [])
raise_split [] r b l h = (
  and_left (b == 255) (all_top r) l,
  cond-true (all_top r) (raised b ∷ []) (b ∷ raise r) h,
)
raise_split (x ∷ f) r b l h =
    let k = raise_split f r b l h in (
      and_right (x == 255) (all_top (f ++ b ∷ r)) k.0,
      cond-false (all_top (f ++ b ∷ r)) (raised x ∷ []) (x ∷ raise (f ++ b ∷ r)) k.0
          ∙ ap (λ (l : List ℕ). x ∷ l) k.1,
    )

apart : (t : List ℕ) (p : ℕ) → p < length t → t ≡ take p t ++ get_or t p 0 ∷ drop (p + 1) t
apart t p l = sym (take-append-drop p t) ∙ ap (λ (r : List ℕ). take p t ++ r)
    (drop-cons t p 0 l ∙ ap (λ n. get_or t p 0 ∷ drop n t) (sym (add-one p)))

raise_at : (t : List ℕ) (p : ℕ) → p < length t → (get_or t p 0 == 255) ≡ false
    → all_top (drop (p + 1) t) ≡ true
    → (all_top t ≡ false) × (raise t ≡ take p t ++ raised (get_or t p 0) ∷ [])
raise_at t p l e h =
    let k = raise_split (take p t) (drop (p + 1) t) (get_or t p 0) e h in
    (ap all_top (apart t p l) ∙ k.0, ap raise (apart t p l) ∙ k.1)

-- ---- the next value

pub room_follows : (t : List ℕ) → length t < 4096 → following_text t ≡ Some (Text (t ++ 32 ∷ []))
room_follows t l =
    let e : nat_lt (length t) 4096 ≡ true = lt-ltb (length t) 4096 l in
    cond-true (has_next (Text t)) (Some (next (Text t))) None (ap (λ b. b || not (all_top t)) e)
    ∙ ap (λ (x : List ℕ). Some (Text x)) (cond-true (nat_lt (length t) 4096) (t ++ 32 ∷ [])
    (raise t) e)

pub raised_follows : (t : List ℕ) (p : ℕ) → 4096 ≤ length t → p < length t
    → (get_or t p 0 == 255) ≡ false → all_top (drop (p + 1) t) ≡ true
    → following_text t ≡ Some (Text (take p t ++ raised (get_or t p 0) ∷ []))
raised_follows t p l q e h =
    let f : nat_lt (length t) 4096 ≡ false = le-ltb (length t) 4096 l in
    let k = raise_at t p q e h in
    cond-true (has_next (Text t)) (Some (next (Text t))) None
    (ap (λ b. b || not (all_top t)) f ∙ ap not k.0)
    ∙ ap (λ (x : List ℕ). Some (Text x)) (cond-false (nat_lt (length t) 4096) (t ++ 32 ∷ [])
    (raise t) f ∙ k.1)

pub none_follows : (t : List ℕ) → 4096 ≤ length t → all_top t ≡ true → following_text t ≡ None
none_follows t l h =
    let f : nat_lt (length t) 4096 ≡ false = le-ltb (length t) 4096 l in
    cond-false (has_next (Text t)) (Some (next (Text t))) None
    (ap (λ b. b || not (all_top t)) f ∙ ap not h)

pub number_follows : (n : ℤ) → n <ℤ pos (2 ^ 63 - 1) → following (Int n) ≡ Some (Int (n +ℤ pos 1))
number_follows n l = by_ranked (n <ℤ pos (2 ^ 63 - 1)) (n ≡ pos (2 ^ 63 - 1))
    (pos (2 ^ 63 - 1) <ℤ n) (int_cmp n (pos (2 ^ 63 - 1)))
    (int_ranked n (pos (2 ^ 63 - 1)) (int_cmp n (pos (2 ^ 63 - 1))) refl)
    (λ o k. cond-true (has_next (Int n)) (Some (next (Int n))) None (ap is_lt o))
    (λ o e. absurd (omega (arith, ints, ap (λ (x : ℤ). x) e)))
    (λ o g. absurd (omega (arith, ints)))

pub no_number_follows : (n : ℤ) → pos (2 ^ 63 - 1) ≤ℤ n → following (Int n) ≡ None
no_number_follows n l = by_ranked (n <ℤ pos (2 ^ 63 - 1)) (n ≡ pos (2 ^ 63 - 1))
    (pos (2 ^ 63 - 1) <ℤ n) (int_cmp n (pos (2 ^ 63 - 1)))
    (int_ranked n (pos (2 ^ 63 - 1)) (int_cmp n (pos (2 ^ 63 - 1))) refl)
    (λ o k. absurd (omega (arith, ints)))
    (λ o e. cond-false (has_next (Int n)) (Some (next (Int n))) None (ap is_lt o))
    (λ o g. cond-false (has_next (Int n)) (Some (next (Int n))) None (ap is_lt o))

-- so many elements of what stands from a place on are all of it
pub whole_rest : (t : List ℕ) (n : ℕ) → take (length t - n) (drop n t) ≡ drop n t
whole_rest t n = take_all (length t - n) (drop n t) (omega (arith, length-drop n t))
