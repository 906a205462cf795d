-- A test of a word or of a sign passes at that lexeme alone.
use Rattle.std.proofs.Common.{◌≡◌, ℕ, Bool, true, false, List, ◌∷◌, refl, sym, ap, ◌∙◌}
use Rattle.std.proofs.lemmas.Slice.Eq.{bytes_eq-Decides}
use Rattle.lexer_spec.specs.Lexemes.{Lexeme, word, number, text, sign, is_word, is_sign}
use Rattle.lexer_spec.proofs.Cases.{true_false}

pub word_exact : (w : List ℕ) (x : Lexeme) → is_word w x ≡ true → x ≡ word w
word_exact w (word b) e = ap word ((bytes_eq-Decides b w).0 e)
word_exact w (number z) e = true_false (sym e)
word_exact w (text t) e = true_false (sym e)
word_exact w (sign s) e = true_false (sym e)

pub sign_exact : (w : List ℕ) (x : Lexeme) → is_sign w x ≡ true → x ≡ sign w
sign_exact w (sign b) e = ap sign ((bytes_eq-Decides b w).0 e)
sign_exact w (number z) e = true_false (sym e)
sign_exact w (text t) e = true_false (sym e)
sign_exact w (word s) e = true_false (sym e)

pub word_is : (w : List ℕ) → is_word w (word w) ≡ true
word_is w = (bytes_eq-Decides w w).1 refl

pub sign_is : (w : List ℕ) → is_sign w (sign w) ≡ true
sign_is w = (bytes_eq-Decides w w).1 refl

pub clash : {X : Type 0} (is : Lexeme → Bool) (x y : Lexeme) (l m : List Lexeme) → is x ≡ false
    → is y ≡ true → x ∷ l ≡ y ∷ m → X
clash is x y l m e f h = let z : x ≡ y = cc in true_false (sym f ∙ sym (ap is z) ∙ e)
