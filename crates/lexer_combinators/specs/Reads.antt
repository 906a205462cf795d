-- What a function that reads ensures.
use Rattle.std.specs.Prelude.{◌≡◌, Bool, false, List, [], ◌∷◌, ◌++◌, map, Result, Ok, Err}
use Rattle.lexer_combinators.specs.declared.cursor.Stop.{Stop}
use Rattle.lexer_combinators.specs.declared.cursor.Stop.TheVariants as stop
use Rattle.lexer_combinators.specs.declared.cursor.Cursor.{Cursor}
use Rattle.lexer_spec.specs.Lexemes.{Lexeme, lexeme}
use Rattle.lexer_combinators.specs.Parsing.{Out, Parsed, Unexpected, LimitExceeded}

-- what is still to be read
abbrev pub ahead : Cursor → List Lexeme
ahead c = map lexeme c.rest.now

abbrev pub sees : (Lexeme → Bool) → List Lexeme → Bool
sees is [] = false
sees is (x ∷ more) = is x

abbrev pub Fails : {A : Type 0} → Out A → Stop → Cursor → Type 0
Fails out stop.NoMemory new = Unit {0}
Fails out stop.Unexpected new = out ≡ Unexpected new.nodes (ahead new)
Fails out (stop.TooMany w) new = out ≡ LimitExceeded w new.nodes (ahead new)

-- it was read, or failed, as reading says, and so many nodes were counted; running out of memory is
-- free
abbrev pub Reads : {A X : Type 0} → (X → A) → Out A → Result X Stop → Cursor → Type 0
Reads view out (Ok x) new = out ≡ Parsed (view x) new.nodes (ahead new)
Reads view out (Err e) new = Fails out e new

-- more items were read after those that were there
abbrev pub ReadsMore : {A : Type 0} → Out (List A) → List A → List A → Result (Unit {0}) Stop
    → Cursor → Type 0
ReadsMore {A} out old all (Ok x) new = (l : List A) × (out ≡ Parsed l new.nodes (ahead new))
    × (all ≡ old ++ l)
ReadsMore out old all (Err e) new = Fails out e new
