-- The turns of a loop that reads so many more constants: o is the whole list's outcome.
use Rattle.std.proofs.Common.{◌≡◌, ℕ, zero, suc, ◌-◌, ◌<◌, true, false, List, [], ◌∷◌, ◌++◌, drop}
use Rattle.std.proofs.Common.{ap, ◌∙◌, append-nil, arith, codes, refl}
use Rattle.prima_base.specs.declared.value.Value.{Value}
use Rattle.lexer_spec.specs.Lexemes.{Lexeme, is_sign}
use Rattle.lexer_combinators.specs.Parsing.{Out, Parsed, Unexpected, and_then, bind, map_to}
use Rattle.lexer_combinators.specs.Parsing.{prepend}
use Rattle.lexer_trees_spec.specs.Constants.{constant}
use Rattle.lexer_combinators.specs.Reads.{sees, Fails}
use Rattle.lexer_combinators.specs.declared.cursor.Stop.{Stop}
use Rattle.lexer_combinators.specs.declared.cursor.Stop.TheVariants as stop
use Rattle.lexer_combinators.specs.declared.cursor.Cursor.{Cursor}
use Rattle.lexer_combinators.proofs.ReadSteps.{lead_seen, lead_not, prepend_none, prepend_twice}
use Rattle.lexer_combinators.proofs.ReadSteps.{as_prepend}
use Rattle.script_parse.specs.StatementReader.{more_constants}

step : (k n : ℕ) (ts : List Lexeme) → 0 < k → sees (is_sign (codes ",")) ts ≡ true
    → more_constants k n ts ≡ and_then (constant n (drop 1 ts))
    (λ v. map_to (λ l. v ∷ l) (more_constants (k - 1)))
unfolding more_constants
step zero n ts h e = absurd (omega arith)
step (suc k) n ts h e = lead_seen (is_sign (codes ","))
    (bind constant (λ v. map_to (λ l. v ∷ l) (more_constants k))) n ts e
    ∙ ap (λ j. and_then (constant n (drop 1 ts)) (λ v. map_to (λ l. v ∷ l) (more_constants j)))
    (omega arith)

not : (k n : ℕ) (ts : List Lexeme) → 0 < k → sees (is_sign (codes ",")) ts ≡ false
    → more_constants k n ts ≡ Unexpected n ts
unfolding more_constants
not zero n ts h e = absurd (omega arith)
not (suc k) n ts h e = lead_not (is_sign (codes ","))
    (bind constant (λ v. map_to (λ l. v ∷ l) (more_constants k))) n ts e

none : (k n : ℕ) (ts : List Lexeme) → k ≡ 0 → more_constants k n ts ≡ Parsed [] n ts
unfolding more_constants
none zero n ts e = refl
none (suc k) n ts e = absurd (omega (arith, e))

pub constants_first : (k n : ℕ) (ts : List Lexeme)
    → more_constants k n ts ≡ prepend [] (more_constants k n ts)
constants_first k n ts = prepend_none (more_constants k n ts)

module _ (o : Out (List Value)) (done : List Value) (k n : ℕ) (ts : List Lexeme)
    (so_far : o ≡ prepend done (more_constants k n ts)) where
  pub constants_done : k ≡ 0 → o ≡ Parsed done n ts
  constants_done e = so_far ∙ ap (prepend done) (none k n ts e)
      ∙ ap (λ l. Parsed l n ts) (append-nil done)

  pub constants_next : (v : Value) (m : ℕ) (r : List Lexeme) → 0 < k
      → sees (is_sign (codes ",")) ts ≡ true → constant n (drop 1 ts) ≡ Parsed v m r
      → o ≡ prepend (done ++ v ∷ []) (more_constants (k - 1) m r)
  constants_next v m r h e i = so_far ∙ ap (prepend done)
      (step k n ts h e ∙ ap (λ z. and_then z (λ v. map_to (λ l. v ∷ l) (more_constants (k - 1)))) i
      ∙ as_prepend v (more_constants (k - 1) m r))
      ∙ prepend_twice done (v ∷ []) (more_constants (k - 1) m r)

  pub constants_stuck : 0 < k → sees (is_sign (codes ",")) ts ≡ false → o ≡ Unexpected n ts
  constants_stuck h e = so_far ∙ ap (prepend done) (not k n ts h e)

  pub constants_err : (e : Stop) (cur : Cursor) → 0 < k → sees (is_sign (codes ",")) ts ≡ true
      → Fails (constant n (drop 1 ts)) e cur → Fails o e cur
  constants_err stop.NoMemory cur h e f = tt
  constants_err stop.Unexpected cur h e f = so_far
      ∙ ap (prepend done) (step k n ts h e ∙ ap
      (λ z. and_then z (λ v. map_to (λ l. v ∷ l) (more_constants (k - 1)))) f)
  constants_err (stop.TooMany w) cur h e f = so_far
      ∙ ap (prepend done) (step k n ts h e ∙ ap
      (λ z. and_then z (λ v. map_to (λ l. v ∷ l) (more_constants (k - 1)))) f)
