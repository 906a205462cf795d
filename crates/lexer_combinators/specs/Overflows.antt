-- At which token a count passes its limit, and which is the first of them: of one part, each of
-- whose tokens has its counts, and of a text whose parts have counts of their own.
use Rattle.std.specs.Prelude.{◌≡◌, ℕ, ◌+◌, ◌<◌, ◌++◌, List, [], ◌∷◌, length, map, get_or, Option}
use Rattle.std.specs.Prelude.{Some, None, Result, Err}
use Rattle.prima_base.specs.declared.refusal.What.{What}
use Rattle.prima_base.specs.Limits.{max_depth}
use Rattle.lexer_spec.specs.declared.token.Token.{Token}
use Rattle.lexer_combinators.specs.Grammar.{Grammar}
use Rattle.lexer_combinators.specs.declared.fault.ParseFault.{ParseFault}
use Rattle.lexer_combinators.specs.declared.fault.ParseFault.TheVariants as fault
use Rattle.lexer_spec.specs.Lexemes.{Lexeme}
use Rattle.lexer_combinators.specs.Parsing.{CanGoOn, limit}
use Rattle.lexer_combinators.specs.Grammar.{Size}
use Rattle.lexer_combinators.specs.TokenCounts.{TokenCounts, crossed_by}
use Rattle.lexer_combinators.specs.Found.{lexemes_from, place, IsFirst, IsTooMany}

-- at each token, after so many nodes: the count that passes its limit there, if one does
abbrev pub overflows_after : ℕ → List TokenCounts → List (Option What)
overflows_after n [] = []
overflows_after n (m ∷ ms) = crossed_by max_depth (n + m.nodes) m ∷ overflows_after (n + m.nodes) ms

-- in a part with counts of its own
abbrev pub overflows : List TokenCounts → List (Option What)
overflows ms = overflows_after 0 ms

-- nothing is counted at these
abbrev pub no_overflows : List Lexeme → List (Option What)
no_overflows f = map (λ x. None) f

-- the k-th token is the first at which a count passes its limit, and it is this count
abbrev pub IsFirstOverflow : What → List (Option What) → ℕ → Type 0
IsFirstOverflow w ps k = (get_or ps k None ≡ Some w) × ((j : ℕ) → j < k → get_or ps j None ≡ None)

-- the grammar goes on with the lexeme after this prefix, and however it goes on, it is the first at
-- which a count passes its limit, and this count
abbrev pub OverflowsFirst : {A : Type 0} → (G : Grammar A)
    → ((a : A) (s : Size) (f : List Lexeme) → G a s f → List (Option What)) → What → List Lexeme
    → Lexeme → Type 0
OverflowsFirst {A} G overflow w prefix x =
    CanGoOn G (prefix ++ x ∷ []) × ((more : List Lexeme) (a : A) (s : Size)
    (h : G a s (prefix ++ x ∷ more)) → IsFirstOverflow w (overflow a s (prefix ++ x ∷ more) h)
    (length prefix))

-- a fault is at the first token with which nothing of the grammar goes on, or at which a count
-- passes its limit
abbrev pub IsFaultOf : {A X : Type 0} → (G : Grammar A)
    → ((a : A) (s : Size) (f : List Lexeme) → G a s f → List (Option What)) → List Token → ℕ
    → Result (X × ℕ) ParseFault → Type 0
IsFaultOf G overflow list from (Err (fault.Syntax at)) = (k : ℕ) × (at ≡ place list (from + k))
    × IsFirst G (lexemes_from list from) k
IsFaultOf G overflow list from (Err fault.RanOut) = CanGoOn G (lexemes_from list from)
IsFaultOf G overflow list from (Err (fault.TooMany w most)) = (most ≡ limit w)
    × (prefix : List Lexeme) × (x : Lexeme) × (suffix : List Lexeme)
    × (lexemes_from list from ≡ prefix ++ x ∷ suffix) × OverflowsFirst G overflow w prefix x
IsFaultOf G overflow list from _ = Unit {0}

-- a prefix that passes a limit at its last token is refused there for this count, whatever stands
-- after it
abbrev pub RefusesFirst : {A X : Type 0} → (G : Grammar A)
    → ((a : A) (s : Size) (f : List Lexeme) → G a s f → List (Option What)) → List Token → ℕ
    → Result (X × ℕ) ParseFault → Type 0
RefusesFirst {A} G overflow list from result = (w : What) (prefix rest more : List Lexeme)
    (x : Lexeme) (a : A) (s : Size) (h : G a s (prefix ++ x ∷ more))
    → lexemes_from list from ≡ prefix ++ x ∷ rest →
    IsFirstOverflow w (overflow a s (prefix ++ x ∷ more) h) (length prefix) → IsTooMany w result
