-- A moment, or `now`: the steps of reading.
use Rattle.std.proofs.Common.{◌≡◌, ℕ, true, false, cond, drop, Some, List, [], ◌∷◌, refl, sym, ap}
use Rattle.std.proofs.Common.{codes}
use Rattle.lexer_spec.specs.Lexemes.{Lexeme, is_word}
use Rattle.lexer_combinators.specs.Parsing.{Parsed, arm_run, single_arm}
use Rattle.lexer_combinators.specs.Reads.{sees}
use Rattle.lexer_trees_spec.specs.Constants.{as_moment, moment}
use Rattle.lexer_spec.proofs.Cases.{true_false}
use Rattle.temporal_lang_grammar_spec.specs.QueryReader.{moment_or}

pub now_seen : (last n : ℕ) (ts : List Lexeme) → sees (is_word (codes "now")) ts ≡ true
    → moment_or last n ts ≡ Parsed last n (drop 1 ts)
unfolding moment_or
now_seen last n [] e = true_false (sym e)
now_seen last n (x ∷ ts) e = ap (λ b. arm_run (single_arm (cond b (Some last) (as_moment x))) x n
    ts) e

pub now_not : (last n : ℕ) (ts : List Lexeme) → sees (is_word (codes "now")) ts ≡ false
    → moment_or last n ts ≡ moment n ts
unfolding moment_or moment
now_not last n [] e = refl
now_not last n (x ∷ ts) e = ap (λ b. arm_run (single_arm (cond b (Some last) (as_moment x))) x n ts)
    e
