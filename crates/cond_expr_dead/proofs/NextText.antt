-- The next text: nothing lies between a text and the next.
use Rattle.std.proofs.Common.{◌≡◌, ℕ, ◌+◌, ◌<◌, ◌≤◌, Bool, true, false, List, [], ◌∷◌, ◌++◌, length}
use Rattle.std.proofs.Common.{refl, sym, ap, subst, ◌∙◌, inl, inr, arith}
use Rattle.std.specs.Prelude.{◌⊎◌, ◌==◌, ◌&&◌, ◌||◌, not, nat_lt, Some, None, ⊤}
use Rattle.std.proofs.lemmas.Bool.{cond-true, cond-false, cases_Bool, and_left, and_right, ltb-true}
use Rattle.std.proofs.lemmas.Bool.{ltb-false}
use Rattle.std.proofs.lemmas.Cmp.{ranked, by_ranked}
use Rattle.std.proofs.lemmas.List.{length-append}
use Rattle.std.proofs.lemmas.Bool.Decides.{nat_tests}
use Rattle.std.specs.declared.cmp.Ordering.TheVariants.{Less, Equal, Greater}
use Rattle.std.specs.Ordering.{nat_cmp, ordering_then, is_gt}
use Rattle.prima_base.specs.Bytes.{is_control, first_from, IsTxt}
use Rattle.prima_base.specs.Order.{bytes_cmp}
use Rattle.cond_expr_dead.specs.Steps.{raised, all_top, raise, after}

-- ---- valid bytes

-- each byte is one of a text
abbrev pub Clean : List ℕ → Type 0
Clean [] = ⊤
Clean (b ∷ t) = (is_control b ≡ false) × Clean t

pub clean : (at : ℕ) (t : List ℕ) → first_from is_control at t ≡ None → Clean t
clean at [] h = tt
clean at (b ∷ t) h = elim (cases_Bool (is_control b)) [
  | inl e ↦ absurd (let k : Some at ≡ None = sym
      (cond-true (is_control b) (Some at) (first_from is_control (at + 1) t) e) ∙ h in cc)
  | inr e ↦ (
    e,
    clean (at + 1) t (sym (cond-false (is_control b) (Some at)
        (first_from is_control (at + 1) t) e) ∙ h),
  )
]

pub unclean : (at : ℕ) (t : List ℕ) → Clean t → first_from is_control at t ≡ None
unclean at [] h = refl
unclean at (b ∷ t) h = cond-false (is_control b) (Some at) (first_from is_control (at + 1) t) h.0
    ∙ unclean (at + 1) t h.1

pub clean_append : (s t : List ℕ) → Clean s → Clean t → Clean (s ++ t)
clean_append [] t a b = b
clean_append (x ∷ s) t a b = (a.0, clean_append s t a.1 b)

byte_most : (b : ℕ) → is_control b ≡ false → b ≤ 255
byte_most b h = grind (arith, nat_tests)

byte_least : (b : ℕ) → is_control b ≡ false → 32 ≤ b
byte_least b h = grind (arith, nat_tests)

not_127 : (b : ℕ) → is_control b ≡ false → b ≡ 127 → ⊥
not_127 b h e = grind (arith, nat_tests)

raised_above : (b : ℕ) → b < raised b
raised_above b = grind (arith, nat_tests)

raised_least : (b e : ℕ) → b < e → is_control e ≡ false → raised b ≤ e
raised_least b e l h = grind (arith, nat_tests)

raised_clean : (b : ℕ) → is_control b ≡ false → (b == 255) ≡ false → is_control (raised b) ≡ false
raised_clean b h n = grind (arith, nat_tests)

-- ---- the order of bytes

head_less : (b e : ℕ) (t d : List ℕ) → b < e → bytes_cmp (b ∷ t) (e ∷ d) ≡ Less
head_less b e t d l = ap (λ o. ordering_then o (bytes_cmp t d))
    (let k : nat_cmp b e ≡ Less = grind (arith, nat_tests) in k)

head_same : (b : ℕ) (t d : List ℕ) → bytes_cmp (b ∷ t) (b ∷ d) ≡ bytes_cmp t d
head_same b t d = ap (λ o. ordering_then o (bytes_cmp t d))
    (let k : nat_cmp b b ≡ Equal = grind (arith, nat_tests) in k)

less_heads : (b e : ℕ) (t d : List ℕ) → bytes_cmp (b ∷ t) (e ∷ d) ≡ Less → (b < e)
    ⊎ ((b ≡ e) × (bytes_cmp t d ≡ Less))
less_heads b e t d h = by_ranked (b < e) (b ≡ e) (e < b) (nat_cmp b e)
    (ranked b e (nat_cmp b e) refl)
    (λ o l. inl l)
    (λ o q. inr (q, sym (ap (λ r. ordering_then r (bytes_cmp t d)) o) ∙ h))
    (λ o g. absurd (let k : Greater ≡ Less = sym (ap (λ r. ordering_then r (bytes_cmp t d)) o)
    ∙ h in cc))

not_less_nothing : (t : List ℕ) → bytes_cmp t [] ≡ Less → ⊥
not_less_nothing [] h = cc
not_less_nothing (b ∷ t) h = cc

pub nothing_first : (d : List ℕ) → is_gt (bytes_cmp [] d) ≡ false
nothing_first [] = refl
nothing_first (e ∷ d) = refl

-- a text of one byte that is at most the first of another
one_first : (b e : ℕ) (d : List ℕ) → b ≤ e → is_gt (bytes_cmp (b ∷ []) (e ∷ d)) ≡ false
one_first b e d l = by_ranked (b < e) (b ≡ e) (e < b) (nat_cmp b e) (ranked b e (nat_cmp b e) refl)
    (λ o k. ap (λ r. is_gt (ordering_then r (bytes_cmp [] d))) o)
    (λ o q. ap (λ r. is_gt (ordering_then r (bytes_cmp [] d))) o ∙ nothing_first d)
    (λ o g. absurd (omega arith))

-- ---- one more byte

longer_above : (t : List ℕ) → bytes_cmp t (t ++ 32 ∷ []) ≡ Less
longer_above [] = refl
longer_above (b ∷ t) = head_same b t (t ++ 32 ∷ []) ∙ longer_above t

longer_least : (t d : List ℕ) → Clean d → bytes_cmp t d ≡ Less
    → is_gt (bytes_cmp (t ++ 32 ∷ []) d) ≡ false
longer_least [] [] c h = absurd (cc)
longer_least [] (e ∷ d) c h = one_first 32 e d (byte_least e c.0)
longer_least (b ∷ t) [] c h = absurd (cc)
longer_least (b ∷ t) (e ∷ d) c h = elim (less_heads b e t d h) [
  | inl l ↦ ap is_gt (head_less b e (t ++ 32 ∷ []) d l)
  | inr q ↦ ap is_gt (ap (λ x. bytes_cmp (x ∷ (t ++ 32 ∷ [])) (e ∷ d)) q.0
      ∙ head_same e (t ++ 32 ∷ []) d) ∙ longer_least t d c.1 q.1
]

-- ---- the last byte that can be raised

raise_above : (t : List ℕ) → all_top t ≡ false → bytes_cmp t (raise t) ≡ Less
raise_above [] h = absurd (cc)
raise_above (b ∷ t) h = elim (cases_Bool (all_top t)) [
  | inl e ↦ ap (bytes_cmp (b ∷ t)) (cond-true (all_top t) (raised b ∷ []) (b ∷ raise t) e)
      ∙ head_less b (raised b) t [] (raised_above b)
  | inr e ↦ ap (bytes_cmp (b ∷ t)) (cond-false (all_top t) (raised b ∷ []) (b ∷ raise t) e)
      ∙ head_same b t (raise t) ∙ raise_above t e
]

low_is_no_top : (b e : ℕ) (t : List ℕ) → b < e → is_control e ≡ false → all_top (b ∷ t) ≡ false
low_is_no_top b e t l c = and_left (b == 255) (all_top t)
    (let m = byte_most e c in grind (arith, nat_tests))

pub not_top : (t d : List ℕ) → Clean d → length d ≤ length t → bytes_cmp t d ≡ Less
    → all_top t ≡ false
not_top [] [] c l h = absurd (cc)
not_top [] (e ∷ d) c l h = absurd (omega arith)
not_top (b ∷ t) [] c l h = absurd (cc)
not_top (b ∷ t) (e ∷ d) c l h = elim (less_heads b e t d h) [
  | inl k ↦ low_is_no_top b e t k c.0
  | inr q ↦ and_right (b == 255) (all_top t) (not_top t d c.1 (omega arith) q.1)
]

raise_least : (t d : List ℕ) → Clean d → length d ≤ length t → bytes_cmp t d ≡ Less
    → is_gt (bytes_cmp (raise t) d) ≡ false
raise_least [] [] c l h = absurd (cc)
raise_least [] (e ∷ d) c l h = absurd (omega arith)
raise_least (b ∷ t) [] c l h = absurd (cc)
raise_least (b ∷ t) (e ∷ d) c l h = elim (less_heads b e t d h) [
  | inl k ↦ elim (cases_Bool (all_top t)) [
    | inl a ↦ ap (λ x. is_gt (bytes_cmp x (e ∷ d)))
        (cond-true (all_top t) (raised b ∷ []) (b ∷ raise t) a)
        ∙ one_first (raised b) e d (raised_least b e k c.0)
    | inr a ↦ ap (λ x. is_gt (bytes_cmp x (e ∷ d)))
        (cond-false (all_top t) (raised b ∷ []) (b ∷ raise t) a)
        ∙ ap is_gt (head_less b e (raise t) d k)
  ]
  | inr q ↦
      ap (λ x. is_gt (bytes_cmp x (e ∷ d))) (cond-false (all_top t) (raised b ∷ []) (b ∷ raise t)
      (not_top t d c.1 (omega arith) q.1))
      ∙ ap is_gt (ap (λ x. bytes_cmp (x ∷ raise t) (e ∷ d)) q.0 ∙ head_same e (raise t) d)
      ∙ raise_least t d c.1 (omega arith) q.1
]

raise_clean : (t : List ℕ) → Clean t → all_top t ≡ false → Clean (raise t)
raise_clean [] c h = tt
raise_clean (b ∷ t) c h = elim (cases_Bool (all_top t)) [
  | inl e ↦ subst Clean (sym (cond-true (all_top t) (raised b ∷ []) (b ∷ raise t) e))
      (raised_clean b c.0 (first_low b t h e), tt)
  | inr e ↦ subst Clean (sym (cond-false (all_top t) (raised b ∷ []) (b ∷ raise t) e))
      (c.0, raise_clean t c.1 e)
]
  where
    first_low : (b : ℕ) (t : List ℕ) → all_top (b ∷ t) ≡ false → all_top t ≡ true
        → (b == 255) ≡ false
    first_low b t h e = elim (cases_Bool (b == 255)) [
      | inl q ↦ absurd (let k : true ≡ false = sym (ap (λ x. x && all_top t) q ∙ e) ∙ h in cc)
      | inr q ↦ q
    ]

raise_short : (t : List ℕ) → length (raise t) ≤ length t
raise_short [] = omega arith
raise_short (b ∷ t) = elim (cases_Bool (all_top t)) [
  | inl e ↦ subst (λ (x : List ℕ). length x ≤ length (b ∷ t))
      (sym (cond-true (all_top t) (raised b ∷ []) (b ∷ raise t) e)) (omega arith)
  | inr e ↦ subst (λ (x : List ℕ). length x ≤ length (b ∷ t))
      (sym (cond-false (all_top t) (raised b ∷ []) (b ∷ raise t) e))
      (let i = raise_short t in omega arith)
]

-- ---- both

module _ (t : List ℕ) where
  abbrev has_room : Bool
  has_room = nat_lt (length t) 4096

  pub after_above : (nat_lt (length t) 4096 || not (all_top t)) ≡ true
      → bytes_cmp t (after t) ≡ Less
  after_above h = elim (cases_Bool (nat_lt (length t) 4096)) [
    | inl e ↦ ap (bytes_cmp t) (cond-true (nat_lt (length t) 4096) (t ++ 32 ∷ []) (raise t) e)
        ∙ longer_above t
    | inr e ↦ ap (bytes_cmp t) (cond-false (nat_lt (length t) 4096) (t ++ 32 ∷ []) (raise t) e)
        ∙ raise_above t (grind arith)
  ]

  pub after_least : (d : List ℕ) → IsTxt d → bytes_cmp t d ≡ Less
      → ((nat_lt (length t) 4096 || not (all_top t)) ≡ true)
      × (is_gt (bytes_cmp (after t) d) ≡ false)
  after_least d i h = elim (cases_Bool (nat_lt (length t) 4096)) [
    | inl e ↦ (
      ap (λ b. b || not (all_top t)) e,
      ap (λ x. is_gt (bytes_cmp x d)) (cond-true (nat_lt (length t) 4096) (t ++ 32 ∷ []) (raise t)
          e) ∙ longer_least t d (clean 0 d i.1) h,
    )
    | inr e ↦
        let far : length d ≤ length t = (let k = ltb-false (length t) 4096 e in
        omega (arith, i.0)) in
        let low = not_top t d (clean 0 d i.1) far h in (
          ap (λ b. b || not (all_top t)) e ∙ ap not low,
          ap (λ x. is_gt (bytes_cmp x d)) (cond-false (nat_lt (length t) 4096) (t ++ 32 ∷ [])
              (raise t) e) ∙ raise_least t d (clean 0 d i.1) far h,
        )
  ]

  pub after_text : IsTxt t → (nat_lt (length t) 4096 || not (all_top t)) ≡ true → IsTxt (after t)
  after_text i h = elim (cases_Bool (nat_lt (length t) 4096)) [
    | inl e ↦ subst IsTxt (sym (cond-true (nat_lt (length t) 4096) (t ++ 32 ∷ []) (raise t) e)) (
      (let k = ltb-true (length t) 4096 e in omega (arith, length-append t (32 ∷ []))),
      unclean 0 (t ++ 32 ∷ []) (clean_append t (32 ∷ []) (clean 0 t i.1) (refl, tt)),
    )
    | inr e ↦ subst IsTxt (sym (cond-false (nat_lt (length t) 4096) (t ++ 32 ∷ []) (raise t) e)) (
      (let k = raise_short t in omega (arith, i.0)),
      unclean 0 (raise t) (raise_clean t (clean 0 t i.1) (low e)),
    )
  ]
    where
      low : nat_lt (length t) 4096 ≡ false → all_top t ≡ false
      low e = elim (cases_Bool (all_top t)) [
        | inl q ↦ absurd (let k : false ≡ true = sym (ap (λ b. b || not (all_top t)) e ∙ ap not q)
            ∙ h in cc)
        | inr q ↦ q
      ]
