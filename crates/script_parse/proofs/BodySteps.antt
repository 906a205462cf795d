-- What a command does, as the code reads it.
use Rattle.std.proofs.Common.{◌≡◌, ℕ, true, false, cond, List, [], ◌∷◌, drop, codes, refl, ap}
use Rattle.smo_ops_types.specs.Commands.{changing}
use Rattle.lexer_spec.specs.Lexemes.{Lexeme, is_word}
use Rattle.lexer_combinators.specs.Parsing.{Takes, Whole, arm_run, map_to}
use Rattle.lexer_combinators.specs.Reads.{sees}
use Rattle.lexer_combinators.proofs.ReadSteps.{choose_takes}
use Rattle.script_parse.specs.StatementReader.{evolve_rest, change, changes, body}

pub body_evolves : (n : ℕ) (ts : List Lexeme) → sees (is_word (codes "EVOLVE")) ts ≡ true
    → body n ts ≡ evolve_rest n (drop 1 ts)
unfolding body
body_evolves n ts e = choose_takes (is_word (codes "EVOLVE")) evolve_rest
    (λ x. Whole (map_to (λ l. changing l) changes)) n ts e

pub body_changes : (n : ℕ) (ts : List Lexeme) → sees (is_word (codes "EVOLVE")) ts ≡ false
    → body n ts ≡ map_to (λ l. changing l) changes n ts
unfolding body changes change
body_changes n [] e = refl
body_changes n (x ∷ ts) e = ap (λ b. arm_run (cond b (Takes evolve_rest)
    (Whole (map_to (λ l. changing l) changes))) x n ts) e
