-- Where in a list a value is spelled, and that the value and what stands after it determine each
-- other.
use Rattle.std.specs.Prelude.{◌≡◌, List, ◌++◌}
use Rattle.lexer_spec.specs.Lexemes.{Lexeme}
use Rattle.lexer_combinators.specs.Grammar.{Grammar}
use Rattle.lexer_combinators.specs.Grammar.{Size}

-- the list begins with lexemes that spell this value, of this size, and after them stands the rest
abbrev pub BeginsWith : {A : Type 0} → Grammar A → A → Size → List Lexeme → List Lexeme → Type 0
BeginsWith G a s suffix list = (prefix : List Lexeme) × (list ≡ prefix ++ suffix) × G a s prefix

-- however a list is parted, one value has one rest after it, and one rest has one value before it;
-- either tells the size
abbrev pub DetermineEachOther : {A : Type 0} → Grammar A → Type 0
DetermineEachOther {A} G = (list : List Lexeme) (a b : A) (s t : Size) (us vs : List Lexeme)
    → BeginsWith G a s us list → BeginsWith G b t vs list → (a ≡ b → (us ≡ vs) × (s ≡ t))
    × (us ≡ vs → (a ≡ b) × (s ≡ t))
