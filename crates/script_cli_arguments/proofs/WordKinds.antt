-- The kinds of words: `--`, two hyphens and more, one hyphen and more, and all others.
use Rattle.std.proofs.Common.{◌≡◌, ℕ, ◌==◌, Bool, true, false, List, [], ◌∷◌, refl, None, sym}
use Rattle.std.proofs.Common.{subst, eqb-true}
use Rattle.std.specs.Str.{bytes_eq}
use Rattle.clap.specs.Lexer.{long_of, short_of}
use Rattle.script_cli_arguments.specs.Arguments.{Word, option_text, is_dashed}

-- a word that is not dashed
pub record IsPlainWord (word : Word) : Type 0 where
  pub long : long_of word ≡ None
  pub short : short_of word ≡ None
  pub more : bytes_eq word (45 ∷ 45 ∷ []) ≡ false
  pub text : option_text word ≡ None
  pub dashed : is_dashed word ≡ false

pub data KindOf (word : Word) : Type 0 where
  dashes : word ≡ 45 ∷ 45 ∷ [] → KindOf word
  long : (x : ℕ) (xs : List ℕ) → word ≡ 45 ∷ 45 ∷ x ∷ xs → KindOf word
  short : (x : ℕ) (xs : List ℕ) → word ≡ 45 ∷ x ∷ xs → (x == 45) ≡ false → KindOf word
  plain : IsPlainWord word → KindOf word

one_byte : (a : ℕ) (b : Bool) → (a == 45) ≡ b → IsPlainWord (a ∷ [])
one_byte a true e = record { long = rw e; short = rw e; more = rw e; text = refl; dashed = refl }
one_byte a false e = record { long = rw e; short = rw e; more = rw e; text = refl; dashed = refl }

others : (a b : ℕ) (word : Word) → (a == 45) ≡ false → IsPlainWord (a ∷ b ∷ word)
others a b [] e = record { long = rw e; short = rw e; more = rw e; text = refl; dashed = rw e }
others a b (c ∷ word) e = record {
  long = rw e;
  short = rw e;
  more = rw e;
  text = rw e;
  dashed =
      rw e;
}

after_two : (word : Word) → KindOf (45 ∷ 45 ∷ word)
after_two [] = dashes refl
after_two (x ∷ xs) = long x xs refl

after_one : (b : ℕ) (word : Word) (t : Bool) → (b == 45) ≡ t → KindOf (45 ∷ b ∷ word)
after_one b word true e = subst (λ x. KindOf (45 ∷ x ∷ word)) (sym (eqb-true b 45 e))
    (after_two word)
after_one b word false e = short b word refl e

by_first : (a b : ℕ) (word : Word) (t : Bool) → (a == 45) ≡ t → KindOf (a ∷ b ∷ word)
by_first a b word true e = subst (λ x. KindOf (x ∷ b ∷ word)) (sym (eqb-true a 45 e))
    (after_one b word (b == 45) refl)
by_first a b word false e = plain (others a b word e)

pub kind_of_word : (word : Word) → KindOf word
kind_of_word [] = plain (record {
  long = refl;
  short = refl;
  more = refl;
  text = refl;
  dashed =
      refl;
})
kind_of_word (a ∷ []) = plain (one_byte a (a == 45) refl)
kind_of_word (a ∷ b ∷ word) = by_first a b word (a == 45) refl
