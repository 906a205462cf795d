-- The turns of a loop that reads as many items as there are: o is the whole list's outcome.
use Rattle.std.proofs.Common.{◌≡◌, ℕ, ◌<◌, ◌≤◌, Bool, true, false, cond, List, [], ◌∷◌, ◌++◌}
use Rattle.std.proofs.Common.{length, drop, sym, ap, ◌∙◌, append-nil, arith}
use Rattle.lexer_spec.specs.Lexemes.{Lexeme, lexeme}
use Rattle.lexer_combinators.specs.Parsing.{Out, Parsed, Parser, IsCorrectParser, and_then, bind}
use Rattle.lexer_combinators.specs.Parsing.{map_to, many, prepend}
use Rattle.lexer_combinators.specs.Grammar.{Size}
use Rattle.lexer_combinators.specs.declared.cursor.Stop.{Stop}
use Rattle.lexer_combinators.specs.declared.cursor.Stop.TheVariants as stop
use Rattle.lexer_combinators.specs.declared.cursor.Cursor.{Cursor}
use Rattle.lexer_combinators.specs.Reads.{ahead, sees, Fails}
use Rattle.lexer_spec.proofs.Cases.{true_false}
use Rattle.lexer_combinators.proofs.Parsing.{got_fewer, many_none, many_some}
use Rattle.lexer_combinators.proofs.ReadSteps.{prepend_none, prepend_twice, as_prepend}
use Rattle.lexer_combinators.proofs.Places.{length_map}

module _ {A : Type 0} (is : Lexeme → Bool) (d : ℕ) (item : Parser A) (G : A → Size → List Lexeme
    → Type 0) (follow : Lexeme → Bool) (correct : IsCorrectParser 0 d item G follow) where
  fewer : (n : ℕ) (ts : List Lexeme) (a : A) (m : ℕ) (rest : List Lexeme)
      → item n ts ≡ Parsed a m rest → length rest ≤ length ts
  fewer n ts a m rest e = got_fewer 0 d item G follow correct n (omega arith) ts a m rest e

  abbrev then_many : A → Parser (List A)
  then_many a = map_to (λ o. a ∷ o) (many is item)

  many_not : (n : ℕ) (ts : List Lexeme) → sees is ts ≡ false → many is item n ts ≡ Parsed [] n ts
  many_not n [] e = many_none is item fewer n
  many_not n (x ∷ ts) e = many_some is item fewer n x ts
      ∙ ap (λ b. cond b (bind item then_many n ts) (Parsed [] n (x ∷ ts))) e

  many_step : (n : ℕ) (ts : List Lexeme) → sees is ts ≡ true
      → many is item n ts ≡ and_then (item n (drop 1 ts)) then_many
  many_step n [] e = true_false (sym e)
  many_step n (x ∷ ts) e = many_some is item fewer n x ts
      ∙ ap (λ b. cond b (bind item then_many n ts) (Parsed [] n (x ∷ ts))) e

  many_fewer : (n : ℕ) (ts : List Lexeme) (a : A) (m : ℕ) (rest : List Lexeme) → sees is ts ≡ true
      → item n (drop 1 ts) ≡ Parsed a m rest → length rest < length ts
  many_fewer n [] a m rest e i = true_false (sym e)
  many_fewer n (x ∷ ts) a m rest e i = omega (arith, fewer n ts a m rest i)

  -- each turn leaves fewer tokens
  pub many_smaller : (old new : Cursor) (a : A) (m : ℕ) → sees is (ahead old) ≡ true
      → item old.nodes (drop 1 (ahead old)) ≡ Parsed a m (ahead new)
      → length new.rest.now < length old.rest.now
  many_smaller old new a m e i = let h = many_fewer old.nodes (ahead old) a m (ahead new) e i in
      omega (arith, h, length_map lexeme old.rest.now, length_map lexeme new.rest.now)

  pub many_first : (n : ℕ) (ts : List Lexeme) → many is item n ts ≡ prepend [] (many is item n ts)
  many_first n ts = prepend_none (many is item n ts)

  module _ (o : Out (List A)) (done : List A) (n : ℕ) (ts : List Lexeme)
      (so_far : o ≡ prepend done (many is item n ts)) where
    pub many_done : sees is ts ≡ false → o ≡ Parsed done n ts
    many_done e = so_far ∙ ap (prepend done) (many_not n ts e)
        ∙ ap (λ l. Parsed l n ts) (append-nil done)

    pub many_next : (a : A) (m : ℕ) (r : List Lexeme) → sees is ts ≡ true
        → item n (drop 1 ts) ≡ Parsed a m r → o ≡ prepend (done ++ a ∷ []) (many is item m r)
    many_next a m r e i = so_far ∙ ap (prepend done)
        (many_step n ts e ∙ ap (λ z. and_then z then_many) i ∙ as_prepend a (many is item m r))
        ∙ prepend_twice done (a ∷ []) (many is item m r)

    pub many_err : (e : Stop) (cur : Cursor) → sees is ts ≡ true → Fails (item n (drop 1 ts)) e cur
        → Fails o e cur
    many_err stop.NoMemory cur e f = tt
    many_err stop.Unexpected cur e f = so_far
        ∙ ap (prepend done) (many_step n ts e ∙ ap (λ z. and_then z then_many) f)
    many_err (stop.TooMany v) cur e f = so_far
        ∙ ap (prepend done) (many_step n ts e ∙ ap (λ z. and_then z then_many) f)
