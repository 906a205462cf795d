-- What a good reader of a whole list says of its grammar.
use Rattle.std.proofs.Common.{◌≡◌, ℕ, ◌+◌, ◌-◌, Bool, List, [], ◌∷◌, ◌++◌, length, take, sym, ap}
use Rattle.std.proofs.Common.{◌∙◌, subst, append_assoc, append-nil, arith, length-append}
use Rattle.std.proofs.Math.Seq.{take-append_seam}
use Rattle.prima_base.specs.declared.refusal.What.{What}
use Rattle.prima_base.specs.declared.refusal.What.TheVariants as what
use Rattle.lexer_spec.specs.Lexemes.{Lexeme}
use Rattle.lexer_combinators.specs.Parsing.{Out, Parsed, Unexpected, Parser, Explains, Fine}
use Rattle.lexer_combinators.specs.Parsing.{CanGoOn, Exceeds, IsCorrectParser}
use Rattle.lexer_combinators.specs.Grammar.{Size}
use Rattle.lexer_combinators.specs.Found.{IsFirst}
use Rattle.script_parse.specs.Reading.{IsWithin}

-- what is within the limits exceeds none
pub within_none : (w : What) (s : Size) → IsWithin s → Exceeds w 0 32 s → ⊥
within_none what.Nodes s h k = omega (arith, h.0, h.1.1 what.Nodes, k)
within_none what.Depth s h k = omega (arith, h.1.0, k)
within_none what.Parts s h k = omega (arith, h.1.1 what.Parts, k)
within_none what.Tables s h k = omega (arith, h.1.1 what.Tables, k)
within_none what.Branches s h k = omega (arith, h.1.1 what.Branches, k)
within_none what.Outputs s h k = omega (arith, h.1.1 what.Outputs, k)
within_none what.Keeps s h k = omega (arith, h.1.1 what.Keeps, k)
within_none what.Changes s h k = omega (arith, h.1.1 what.Changes, k)
within_none what.Columns s h k = omega (arith, h.1.1 what.Columns, k)
within_none what.Inverse s h k = omega (arith, h.1.1 what.Inverse, k)
within_none what.Versions s h k = omega (arith, h.1.1 what.Versions, k)

module _ {A : Type 0} (p : Parser A) (G : A → Size → List Lexeme → Type 0) (follow : Lexeme → Bool)
    (correct : IsCorrectParser 0 32 p G follow) (ts : List Lexeme) where
  pub explained : (o : Out A) → p 0 ts ≡ o → Explains 32 (p 0) G 0 ts o
  explained o e = let P : Out A → Type 0 = λ u. Explains 32 (p 0) G 0 ts u in
      subst P e (correct.explains 0 (omega arith) ts)

  -- where the whole list is in the grammar
  pub fine : (o : Out A) → p 0 ts ≡ o → (a : A) (s : Size) → G a s ts → Fine 32 a s 0 [] o
  fine o e a s g = let P : Out A → Type 0 = λ u. Fine 32 a s 0 [] u in
      subst P (ap (p 0) (append-nil ts) ∙ e) (correct.complete 0 (omega arith) a s ts [] g tt)

  -- however it goes on, reading ends there in the same way
  ends_there : (prefix : List Lexeme) (x : Lexeme) (make : List Lexeme → Out A)
      → ((other : List Lexeme) → p 0 (prefix ++ x ∷ other) ≡ make (x ∷ other))
      → (more : List Lexeme) (b : A) (s : Size) → G b s ((prefix ++ x ∷ []) ++ more)
      → Fine 32 b s 0 [] (make (x ∷ more))
  ends_there prefix x make same more b s h =
      let all : List Lexeme = (prefix ++ x ∷ []) ++ more in
      let P : Out A → Type 0 = λ o. Fine 32 b s 0 [] o in
      let Q : List Lexeme → Type 0 = λ l. Fine 32 b s 0 [] (p 0 l) in
      subst P (ap (p 0) (append_assoc prefix (x ∷ []) more) ∙ same more)
      (subst Q (append-nil all) (correct.complete 0 (omega arith) b s all [] h tt))

  -- ---- the place of the first that is left

  module _ (prefix : List Lexeme) (x : Lexeme) (suffix : List Lexeme)
      (e : ts ≡ prefix ++ x ∷ suffix) where
    lengths : length ts ≡ length prefix + length (x ∷ suffix)
    lengths = ap length e ∙ length-append prefix (x ∷ suffix)

    number : length ts - length (x ∷ suffix) ≡ length prefix
    number = omega (arith, lengths)

    before : take (length prefix) ts ≡ prefix
    before = ap (take (length prefix)) e ∙ take-append_seam prefix (x ∷ suffix)

    with_it : take (length prefix + 1) ts ≡ prefix ++ x ∷ []
    with_it =
        let k : length prefix + 1 ≡ length (prefix ++ x ∷ []) =
        omega (arith, length-append prefix (x ∷ [])) in
        ap (λ n. take n ts) k ∙ ap (take (length (prefix ++ x ∷ [])))
        (e ∙ sym (append_assoc prefix (x ∷ []) suffix))
        ∙ take-append_seam (prefix ++ x ∷ []) suffix

    -- it is the first with which nothing goes on
    first : CanGoOn G prefix → (make : List Lexeme → Out A)
        → ((b : A) (s : Size) (l : List Lexeme) → Fine 32 b s 0 [] (make (x ∷ l)) → ⊥)
        → ((other : List Lexeme) → p 0 (prefix ++ x ∷ other) ≡ make (x ∷ other))
        → IsFirst G ts (length ts - length (x ∷ suffix))
    first can make never_fine same =
        let P : ℕ → Type 0 = λ k. IsFirst G ts k in
        let C : List Lexeme → Type 0 = λ l. CanGoOn G l in
        subst P (sym number) (
          omega (arith, lengths),
          subst C (sym before) can,
          λ within more.
              let k = subst C with_it more in never_fine k.1 k.2 k.0
              (ends_there prefix x make same k.0 k.1 k.2 k.3),
        )

  -- ---- by what reading says

  pub got_all : (a : A) (m : ℕ) → p 0 ts ≡ Parsed a m [] → (s : Size) × G a s ts × IsWithin s
  got_all a m e =
      let h = explained (Parsed a m []) e in
      let P : List Lexeme → Type 0 = λ l. G a h.1 l in
      (h.1, subst P (sym (h.2 ∙ append-nil h.0)) h.3, (omega (arith, h.4, h.5 (omega arith)), h.6))

  pub got_first : (a : A) (m : ℕ) (x : Lexeme) (suffix : List Lexeme)
      → p 0 ts ≡ Parsed a m (x ∷ suffix) → IsFirst G ts (length ts - length (x ∷ suffix))
  got_first a m x suffix e =
      let h = explained (Parsed a m (x ∷ suffix)) e in
      let P : List Lexeme → Type 0 = λ l. G a h.1 l in
      first h.0 x suffix h.2 ([], a, h.1, subst P (sym (append-nil h.0)) h.3) (Parsed a m)
      (λ b s l f. let z : x ∷ l ≡ [] = f.1 in cc) h.7

  pub stuck_first : (c : ℕ) (x : Lexeme) (suffix : List Lexeme) → p 0 ts ≡ Unexpected c (x ∷ suffix)
      → IsFirst G ts (length ts - length (x ∷ suffix))
  stuck_first c x suffix e = let h = explained (Unexpected c (x ∷ suffix)) e in
      first h.0 x suffix h.1 h.2 (Unexpected c) (λ b s l f. f) h.3

  pub stuck_out : (c : ℕ) → p 0 ts ≡ Unexpected c [] → CanGoOn G ts
      × ((a : A) (s : Size) → G a s ts → ⊥)
  stuck_out c e =
      let h = explained (Unexpected c []) e in
      let P : List Lexeme → Type 0 = λ l. CanGoOn G l in
      (subst P (sym (h.1 ∙ append-nil h.0)) h.2, λ a s g. fine (Unexpected c []) e a s g)
