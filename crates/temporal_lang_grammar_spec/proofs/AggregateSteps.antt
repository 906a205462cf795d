-- The turns of a loop that reads more aggregates: o is the whole list's outcome.
use Rattle.std.proofs.Common.{◌≡◌, ℕ, zero, suc, ◌-◌, ◌<◌, true, false, List, [], ◌∷◌, ◌++◌, drop}
use Rattle.std.proofs.Common.{ap, ◌∙◌, append-nil, arith, codes, refl}
use Rattle.lexer_spec.specs.Lexemes.{Lexeme, is_sign}
use Rattle.lexer_combinators.specs.Parsing.{Out, Parsed, Takes, and_then, bind, map_to, prepend}
use Rattle.lexer_combinators.specs.Reads.{sees, Fails}
use Rattle.lexer_combinators.specs.declared.cursor.Stop.{Stop}
use Rattle.lexer_combinators.specs.declared.cursor.Stop.TheVariants as stop
use Rattle.lexer_combinators.specs.declared.cursor.Cursor.{Cursor}
use Rattle.lexer_combinators.proofs.ReadSteps.{option_not, option_takes, prepend_none}
use Rattle.lexer_combinators.proofs.ReadSteps.{prepend_twice, as_prepend}
use Rattle.temporal_lang_types.specs.declared.agg_item.AggItem.{AggItem}
use Rattle.temporal_lang_grammar_spec.specs.AggregateReader.{agg, more_aggs}

step : (k n : ℕ) (ts : List Lexeme) → 0 < k → sees (is_sign (codes ",")) ts ≡ true
    → more_aggs k n ts ≡ and_then (agg n (drop 1 ts))
    (λ a. map_to (λ l. a ∷ l) (more_aggs (k - 1)))
unfolding more_aggs
step zero n ts h e = absurd (omega arith)
step (suc k) n ts h e = option_takes (is_sign (codes ","))
    (bind agg (λ a. map_to (λ l. a ∷ l) (more_aggs k))) [] n ts e
    ∙ ap (λ j. and_then (agg n (drop 1 ts)) (λ a. map_to (λ l. a ∷ l) (more_aggs j))) (omega arith)

not : (k n : ℕ) (ts : List Lexeme) → sees (is_sign (codes ",")) ts ≡ false
    → more_aggs k n ts ≡ Parsed [] n ts
unfolding more_aggs
not zero n ts e = refl
not (suc k) n ts e = option_not (is_sign (codes ","))
    (Takes (bind agg (λ a. map_to (λ l. a ∷ l) (more_aggs k)))) [] n ts e

none : (k n : ℕ) (ts : List Lexeme) → k ≡ 0 → more_aggs k n ts ≡ Parsed [] n ts
unfolding more_aggs
none zero n ts e = refl
none (suc k) n ts e = absurd (omega (arith, e))

pub aggs_first : (k n : ℕ) (ts : List Lexeme) → more_aggs k n ts ≡ prepend [] (more_aggs k n ts)
aggs_first k n ts = prepend_none (more_aggs k n ts)

module _ (o : Out (List AggItem)) (done : List AggItem) (k n : ℕ) (ts : List Lexeme)
    (so_far : o ≡ prepend done (more_aggs k n ts)) where
  pub aggs_full : k ≡ 0 → o ≡ Parsed done n ts
  aggs_full e = so_far ∙ ap (prepend done) (none k n ts e)
      ∙ ap (λ l. Parsed l n ts) (append-nil done)

  pub aggs_done : sees (is_sign (codes ",")) ts ≡ false → o ≡ Parsed done n ts
  aggs_done e = so_far ∙ ap (prepend done) (not k n ts e)
      ∙ ap (λ l. Parsed l n ts) (append-nil done)

  pub aggs_next : (a : AggItem) (m : ℕ) (r : List Lexeme) → 0 < k
      → sees (is_sign (codes ",")) ts ≡ true → agg n (drop 1 ts) ≡ Parsed a m r
      → o ≡ prepend (done ++ a ∷ []) (more_aggs (k - 1) m r)
  aggs_next a m r h e i = so_far ∙ ap (prepend done)
      (step k n ts h e ∙ ap (λ z. and_then z (λ a. map_to (λ l. a ∷ l) (more_aggs (k - 1)))) i
      ∙ as_prepend a (more_aggs (k - 1) m r))
      ∙ prepend_twice done (a ∷ []) (more_aggs (k - 1) m r)

  pub aggs_err : (e : Stop) (cur : Cursor) → 0 < k → sees (is_sign (codes ",")) ts ≡ true
      → Fails (agg n (drop 1 ts)) e cur → Fails o e cur
  aggs_err stop.NoMemory cur h e f = tt
  aggs_err stop.Unexpected cur h e f = so_far
      ∙ ap (prepend done) (step k n ts h e ∙ ap
      (λ z. and_then z (λ a. map_to (λ l. a ∷ l) (more_aggs (k - 1)))) f)
  aggs_err (stop.TooMany w) cur h e f = so_far
      ∙ ap (prepend done) (step k n ts h e ∙ ap
      (λ z. and_then z (λ a. map_to (λ l. a ∷ l) (more_aggs (k - 1)))) f)
