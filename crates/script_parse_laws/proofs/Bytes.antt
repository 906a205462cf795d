-- Tests of bytes.
use Rattle.std.proofs.Common.{◌≡◌, ℕ, Bool, true, false, ◌==◌, ◌||◌, ◌&&◌, eqb-true, List, [], ◌∷◌}
use Rattle.std.proofs.Common.{refl, sym, ap, ◌∙◌, subst}
use Rattle.lexer_spec.specs.Bytes.{is_blank}
use Rattle.lexer_spec.specs.Spaced.{GapEnds}

pub true_false : {X : Type 0} → true ≡ false → X
true_false e = absurd (let P : Bool → Type 0 = λ b.
    elim b as (λ _. Type 0) [ true ↦ Unit {0} | false ↦ ⊥ ] in subst P e tt)

pub by_test : {X : Type 0} (b : Bool) → (b ≡ true → X) → (b ≡ false → X) → X
by_test true f g = f refl
by_test false f g = g refl

-- a byte that passes a test is none that does not
pub not_byte : (p : ℕ → Bool) (n b : ℕ) → p b ≡ true → p n ≡ false → (b == n) ≡ false
not_byte p n b e f = by_test (b == n) (λ t. true_false (sym e ∙ ap p (eqb-true b n t) ∙ f)) (λ t. t)

none_of : (p q r s : Bool) → p ≡ false → q ≡ false → r ≡ false → s ≡ false
    → (p || (q || (r || s))) ≡ false
none_of p q r s ep eq er es = rw (ep, eq, er, es) refl

-- a test that no blank passes
pub not_blank : (p : ℕ → Bool) (b : ℕ) → p b ≡ true → p 32 ≡ false → p 9 ≡ false → p 10 ≡ false
    → p 13 ≡ false → is_blank b ≡ false
not_blank p b e s t l c = none_of (b == 32) (b == 9) (b == 10) (b == 13) (not_byte p 32 b e s)
    (not_byte p 9 b e t) (not_byte p 10 b e l) (not_byte p 13 b e c)

-- neither a blank nor a dash begins a gap
pub no_gap_at : (b : ℕ) (bytes : List ℕ) → is_blank b ≡ false → (b == 45) ≡ false
    → GapEnds (b ∷ bytes)
no_gap_at b [] e d = e
no_gap_at b (c ∷ bytes) e d = (e, ap (λ t. t && (c == 45)) d)

-- nor does a single dash
pub no_comment_at : (b c : ℕ) (bytes : List ℕ) → is_blank b ≡ false → (c == 45) ≡ false
    → GapEnds (b ∷ c ∷ bytes)
no_comment_at b c bytes e d = (e, both_false (b == 45) d)
  where
    both_false : (t : Bool) {u : Bool} → u ≡ false → (t && u) ≡ false
    both_false true h = h
    both_false false h = refl
