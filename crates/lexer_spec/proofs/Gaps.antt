-- Between tokens stand blanks and comments.
use Rattle.std.proofs.Common.{◌≡◌, ℕ, ◌+◌, Bool, true, false, cond, not, ◌&&◌, ◌==◌, eqb-true, List}
use Rattle.std.proofs.Common.{[], ◌∷◌, ◌++◌, length, drop, refl, sym, ap, ◌∙◌, subst, append_assoc}
use Rattle.std.proofs.Common.{append-nil, arith, length-append, ◌⊎◌, inl, inr}
use Rattle.lexer_spec.specs.Bytes.{is_blank, gap_len, gap_dash}
use Rattle.lexer_spec.specs.Spaced as s
use Rattle.lexer_spec.specs.Spaced.{Each, in_line, IsGap, GapEnds}
use Rattle.lexer_spec.proofs.Cases.{by_test}

-- a gap of these bytes, which ends m bytes after a prefix n bytes before them
abbrev Gapped : ℕ → List ℕ → ℕ → Type 0
Gapped n bytes m = (gap : List ℕ) × (rest : List ℕ) × (bytes ≡ gap ++ rest) × (m ≡ n + length gap)
    × IsGap gap rest × GapEnds rest

-- the same from inside a comment on: it goes to the end, or its line ends
abbrev InComment : ℕ → List ℕ → ℕ → Type 0
InComment n bytes m = (Each in_line bytes × (m ≡ n + length bytes))
    ⊎ ((line : List ℕ) × (gap : List ℕ) × (rest : List ℕ) × (bytes ≡ line ++ 10 ∷ (gap ++ rest))
    × Each in_line line × (m ≡ n + length line + 1 + length gap) × IsGap gap rest
    × GapEnds rest)

module _ (n b : ℕ) (bytes : List ℕ) where
  abbrev others : ℕ
  others = cond (b == 45) (gap_dash n bytes) n

  at_blank : is_blank b ≡ true → gap_len false n (b ∷ bytes) ≡ gap_len false (n + 1) bytes
  unfolding gap_len
  at_blank e = ap (λ t. cond t (gap_len false (n + 1) bytes) others) e

  at_dash : is_blank b ≡ false → (b == 45) ≡ true → gap_len false n (b ∷ bytes) ≡ gap_dash n bytes
  unfolding gap_len
  at_dash e f = ap (λ t. cond t (gap_len false (n + 1) bytes) others) e
      ∙ ap (λ t. cond t (gap_dash n bytes) n) f

  at_other : is_blank b ≡ false → (b == 45) ≡ false → gap_len false n (b ∷ bytes) ≡ n
  unfolding gap_len
  at_other e f = ap (λ t. cond t (gap_len false (n + 1) bytes) others) e
      ∙ ap (λ t. cond t (gap_dash n bytes) n) f

  at_second : (b == 45) ≡ true → gap_dash n (b ∷ bytes) ≡ gap_len true (n + 2) bytes
  unfolding gap_len
  at_second e = ap (λ t. cond t (gap_len true (n + 2) bytes) n) e

  at_single : (b == 45) ≡ false → gap_dash n (b ∷ bytes) ≡ n
  unfolding gap_len
  at_single e = ap (λ t. cond t (gap_len true (n + 2) bytes) n) e

  in_comment : (b == 10) ≡ false → gap_len true n (b ∷ bytes) ≡ gap_len true (n + 1) bytes
  unfolding gap_len
  in_comment e = ap (λ t. gap_len (not t) (n + 1) bytes) e

  at_line_end : (b == 10) ≡ true → gap_len true n (b ∷ bytes) ≡ gap_len false (n + 1) bytes
  unfolding gap_len
  at_line_end e = ap (λ t. gap_len (not t) (n + 1) bytes) e

at_end : (comment : Bool) (n : ℕ) → gap_len comment n [] ≡ n
unfolding gap_len
at_end true n = refl
at_end false n = refl

at_lone : (n : ℕ) → gap_dash n [] ≡ n
unfolding gap_len
at_lone n = refl

-- no gap
nothing : (n m : ℕ) (bytes : List ℕ) → m ≡ n → GapEnds bytes → Gapped n bytes m
nothing n m bytes e h = ([], bytes, refl, omega (arith, e), s.no_gap bytes, h)

and_left : (a b : Bool) → a ≡ false → (a && b) ≡ false
and_left a b e = ap (λ t. t && b) e

and_right : (a b : Bool) → b ≡ false → (a && b) ≡ false
and_right true b e = e
and_right false b e = refl

-- a byte that is no blank and no dash
other_ends : (b : ℕ) (bytes : List ℕ) → is_blank b ≡ false → (b == 45) ≡ false → GapEnds (b ∷ bytes)
other_ends b [] e f = e
other_ends b (c ∷ bytes) e f = (e, and_left (b == 45) (c == 45) f)

longer : (n m b : ℕ) (bytes : List ℕ) → is_blank b ≡ true → Gapped (n + 1) bytes m
    → Gapped n (b ∷ bytes) m
longer n m b bytes e h = (
  b ∷ h.0,
  h.1,
  ap (λ l. b ∷ l) h.2,
  omega (arith, h.3),
  s.a_blank b h.0 h.1 e h.4,
  h.5,
)

after_dashes : (n m b c : ℕ) (bytes : List ℕ) → (b == 45) ≡ true → (c == 45) ≡ true
    → InComment (n + 2) bytes m → Gapped n (b ∷ c ∷ bytes) m
after_dashes n m b c bytes e f h = let P : ℕ → Type 0 = λ x. Gapped n (x ∷ c ∷ bytes) m in let Q : ℕ
    → Type 0 = λ x. Gapped n (45 ∷ x ∷ bytes) m in
    subst P (sym (eqb-true b 45 e)) (subst Q (sym (eqb-true c 45 f)) (by_end h))
  where
    by_end : InComment (n + 2) bytes m → Gapped n (45 ∷ 45 ∷ bytes) m
    by_end (inl k) = (
      45 ∷ 45 ∷ bytes,
      [],
      ap (λ l. 45 ∷ 45 ∷ l) (sym (append-nil bytes)),
      omega (arith, k.1),
      s.last_comment bytes k.0,
      tt,
    )
    by_end (inr k) = (
      45 ∷ 45 ∷ (k.0 ++ 10 ∷ k.1),
      k.2,
      ap (λ l. 45 ∷ 45 ∷ l) (k.3 ∙ sym (append_assoc k.0 (10 ∷ k.1) k.2)),
      omega (arith, k.5, length-append k.0 (10 ∷ k.1)),
      s.a_comment k.0 k.1 k.2 k.4 k.6,
      k.7,
    )

line_ends : (n m b : ℕ) (bytes : List ℕ) → (b == 10) ≡ true → Gapped (n + 1) bytes m
    → InComment n (b ∷ bytes) m
line_ends n m b bytes e h = inr (
  [],
  h.0,
  h.1,
  ap (λ x. x ∷ bytes) (eqb-true b 10 e)
      ∙ ap (λ l. 10 ∷ l) h.2,
  tt,
  omega (arith, h.3),
  h.4,
  h.5,
)

line_follow_on : (n m b : ℕ) (bytes : List ℕ) → (b == 10) ≡ false → InComment (n + 1) bytes m
    → InComment n (b ∷ bytes) m
line_follow_on n m b bytes e (inl k) = inl ((ap not e, k.0), omega (arith, k.1))
line_follow_on n m b bytes e (inr k) = inr (
  b ∷ k.0,
  k.1,
  k.2,
  ap (λ l. b ∷ l) k.3,
  (ap not e, k.4),
  omega (arith, k.5),
  k.6,
  k.7,
)

same_end : (n m k : ℕ) (bytes : List ℕ) → m ≡ k → Gapped n bytes k → Gapped n bytes m
same_end n m k bytes e h = let P : ℕ → Type 0 = λ j. Gapped n bytes j in subst P (sym e) h

same_comment_end : (n m k : ℕ) (bytes : List ℕ) → m ≡ k → InComment n bytes k → InComment n bytes m
same_comment_end n m k bytes e h = let P : ℕ → Type 0 = λ j. InComment n bytes j in
    subst P (sym e) h

mutual
  outside : (n : ℕ) (bytes : List ℕ) → Gapped n bytes (gap_len false n bytes)
  outside n [] = nothing n (gap_len false n []) [] (at_end false n) tt
  outside n (b ∷ []) = by_test (is_blank b)
      (λ e. same_end n (gap_len false n (b ∷ [])) (gap_len false (n + 1) []) (b ∷ [])
      (at_blank n b [] e) (longer n (gap_len false (n + 1) []) b [] e (outside (n + 1) [])))
      (λ e. by_test (b == 45) (λ f. nothing n (gap_len false n (b ∷ [])) (b ∷ [])
      (at_dash n b [] e f ∙ at_lone n) e)
      (λ f. nothing n (gap_len false n (b ∷ [])) (b ∷ []) (at_other n b [] e f) e))
  outside n (b ∷ c ∷ bytes) = by_test (is_blank b)
      (λ e. same_end n (gap_len false n (b ∷ c ∷ bytes)) (gap_len false (n + 1) (c ∷ bytes))
      (b ∷ c ∷ bytes) (at_blank n b (c ∷ bytes) e)
      (longer n (gap_len false (n + 1) (c ∷ bytes)) b (c ∷ bytes) e
      (outside (n + 1) (c ∷ bytes))))
      (λ e. by_test (b == 45)
      (λ f. by_test (c == 45)
      (λ d. same_end n (gap_len false n (b ∷ c ∷ bytes)) (gap_len true (n + 2) bytes)
      (b ∷ c ∷ bytes) (at_dash n b (c ∷ bytes) e f ∙ at_second n c bytes d)
      (after_dashes n (gap_len true (n + 2) bytes) b c bytes f d (inside (n + 2) bytes)))
      (λ d. nothing n (gap_len false n (b ∷ c ∷ bytes)) (b ∷ c ∷ bytes)
      (at_dash n b (c ∷ bytes) e f ∙ at_single n c bytes d)
      (e, and_right (b == 45) (c == 45) d)))
      (λ f. nothing n (gap_len false n (b ∷ c ∷ bytes)) (b ∷ c ∷ bytes)
      (at_other n b (c ∷ bytes) e f) (other_ends b (c ∷ bytes) e f)))

  inside : (n : ℕ) (bytes : List ℕ) → InComment n bytes (gap_len true n bytes)
  inside n [] = inl (tt, (let e : gap_len true n [] ≡ n = at_end true n in omega (arith, e)))
  inside n (b ∷ bytes) = by_test (b == 10)
      (λ e. same_comment_end n (gap_len true n (b ∷ bytes)) (gap_len false (n + 1) bytes)
      (b ∷ bytes) (at_line_end n b bytes e)
      (line_ends n (gap_len false (n + 1) bytes) b bytes e (outside (n + 1) bytes)))
      (λ e. same_comment_end n (gap_len true n (b ∷ bytes)) (gap_len true (n + 1) bytes) (b ∷ bytes)
      (in_comment n b bytes e) (line_follow_on n (gap_len true (n + 1) bytes) b bytes e
      (inside (n + 1) bytes)))

drop_prefix : (prefix rest : List ℕ) → drop (length prefix) (prefix ++ rest) ≡ rest
drop_prefix [] rest = refl
drop_prefix (x ∷ prefix) rest = drop_prefix prefix rest

-- what stands before the next token, and after it
pub gap_is : (bytes : List ℕ) → (gap : List ℕ) × (bytes ≡ gap ++ drop (gap_len false 0 bytes) bytes)
    × IsGap gap (drop (gap_len false 0 bytes) bytes) × GapEnds (drop (gap_len false 0 bytes) bytes)
    × (gap_len false 0 bytes ≡ length gap)
gap_is bytes =
    let h = outside 0 bytes in
    let len : gap_len false 0 bytes ≡ length h.0 = omega (arith, h.3) in
    let rest : h.1 ≡ drop (gap_len false 0 bytes) bytes =
    sym (ap (λ k. drop k bytes) len ∙ ap (drop (length h.0)) h.2 ∙ drop_prefix h.0 h.1) in
    let P : List ℕ → Type 0 = λ l. IsGap h.0 l in
    let Q : List ℕ → Type 0 = λ l. GapEnds l in
    (h.0, h.2 ∙ ap (λ l. h.0 ++ l) rest, subst P rest h.4, subst Q rest h.5, len)
