-- What reading a list of tokens ensures, by the grammar.
use Rattle.std.specs.Prelude.{◌≡◌, ℕ, ◌+◌, ◌-◌, ◌<◌, ◌≤◌, Bool, List, ◌++◌, length, take, drop}
use Rattle.std.specs.Prelude.{map, get_or}
use Rattle.std.specs.Prelude.{Result, Ok, Err}
use Rattle.prima_base.specs.declared.refusal.What.{What}
use Rattle.prima_base.specs.Limits.{max_nodes, max_depth}
use Rattle.lexer_spec.specs.declared.token.Token.{Token}
use Rattle.lexer_combinators.specs.Grammar.{Grammar}
use Rattle.lexer_combinators.specs.declared.fault.ParseFault.{ParseFault}
use Rattle.lexer_combinators.specs.declared.fault.ParseFault.TheVariants as fault
use Rattle.lexer_combinators.specs.declared.cursor.Stop.{Stop}
use Rattle.lexer_combinators.specs.declared.cursor.Stop.TheVariants as stop
use Rattle.lexer_spec.specs.Lexemes.{Lexeme, lexeme}
use Rattle.lexer_combinators.specs.Parsing.{CanGoOn, Stops, Valid, Exceeds, Out, Parsed}
use Rattle.lexer_combinators.specs.Parsing.{Unexpected, LimitExceeded, limit}
use Rattle.lexer_combinators.specs.Grammar.{Size}

-- what the tokens from a place on say
abbrev pub lexemes_from : List Token → ℕ → List Lexeme
lexemes_from list from = map lexeme (drop from list)

-- the byte at which a token begins
abbrev pub place : List Token → ℕ → ℕ
place list k = get_or (map (λ t. t.at) list) k 0

-- with the token so far after the prefix nothing goes on
abbrev pub Ends : {A : Type 0} → Grammar A → List Lexeme → ℕ → Type 0
Ends G ts k = k < length ts → CanGoOn G (take (k + 1) ts) → ⊥

-- what was read is in the grammar, up to the answered place, it is the longest, and it is not too
-- much
abbrev pub IsRead : {A X : Type 0} → (X → A) → Grammar A → List Token → ℕ
    → Result (X × ℕ) ParseFault → Type 0
IsRead view G list from (Ok r) = (from ≤ r.1) × (r.1 ≤ length list) × (s : Size)
    × G (view r.0) s (take (r.1 - from) (lexemes_from list from)) × (s.nodes ≤ max_nodes)
    × Valid max_depth s × Ends G (lexemes_from list from) (r.1 - from)
IsRead view G list from (Err e) = Unit {0}

-- this and the place after it, and it is not too much; or it is indeed too much
abbrev pub Finds : {A X : Type 0} → (X → A) → A → Size → ℕ → Result (X × ℕ) ParseFault → Type 0
Finds view a s n (Ok r) = (view r.0 ≡ a) × (r.1 ≡ n) × (s.nodes ≤ max_nodes) × Valid max_depth s
Finds view a s n (Err fault.NoMemory) = Unit {0}
Finds view a s n (Err (fault.TooMany w most)) = Exceeds w 0 max_depth s
Finds view a s n (Err (fault.Syntax at)) = ⊥
Finds view a s n (Err fault.RanOut) = ⊥

-- what is in the grammar, up to a token that it does not go on with, is read if it is within the
-- limits, and else refused
abbrev pub FindsStopped : {A X : Type 0} → (X → A) → Grammar A → (Lexeme → Bool) → List Token → ℕ
    → Result (X × ℕ) ParseFault → Type 0
FindsStopped {A} view G follow list from result = (a : A) (s : Size) (prefix rest : List Lexeme)
    → lexemes_from list from ≡ prefix ++ rest → G a s prefix → Stops follow rest →
    Finds view a s (from + length prefix) result

-- what is in the grammar, where nothing of it goes on with the token after it, is read if it is
-- within the limits, and else refused
abbrev pub FindsLongest : {A X : Type 0} → (X → A) → Grammar A → List Token → ℕ
    → Result (X × ℕ) ParseFault → Type 0
FindsLongest {A} view G list from result = (a : A) (s : Size) (prefix rest : List Lexeme)
    → lexemes_from list from ≡ prefix ++ rest → G a s prefix
    → Ends G (lexemes_from list from) (length prefix) →
    Finds view a s (from + length prefix) result

-- the token so far after the prefix is the first with which nothing goes on
abbrev pub IsFirst : {A : Type 0} → Grammar A → List Lexeme → ℕ → Type 0
IsFirst G ts k = (k < length ts) × CanGoOn G (take k ts) × Ends G ts k

-- it is refused for this count, unless memory ran out
abbrev pub IsTooMany : {X : Type 0} → What → Result (X × ℕ) ParseFault → Type 0
IsTooMany w (Ok r) = ⊥
IsTooMany w (Err fault.NoMemory) = Unit {0}
IsTooMany w (Err (fault.TooMany v most)) = v ≡ w
IsTooMany w (Err (fault.Syntax at)) = ⊥
IsTooMany w (Err fault.RanOut) = ⊥

-- what reading says, by its own definition
abbrev pub AnswersAs : {A X : Type 0} → (X → A) → Out A → List Token → Result (X × ℕ) ParseFault
    → Type 0
AnswersAs view out list (Ok r) = (m : ℕ) × (out ≡ Parsed (view r.0) m (lexemes_from list r.1))
AnswersAs view out list (Err fault.NoMemory) = Unit {0}
AnswersAs view out list (Err (fault.Syntax at)) = (k : ℕ) × (k < length list) × (at ≡ place list k)
    × (m : ℕ) × (out ≡ Unexpected m (lexemes_from list k))
AnswersAs view out list (Err fault.RanOut) = (m : ℕ)
    × (out ≡ Unexpected m (lexemes_from list (length list)))
AnswersAs view out list (Err (fault.TooMany w most)) = (most ≡ limit w) × (k : ℕ)
    × (k < length list) × (m : ℕ) × (out ≡ LimitExceeded w m (lexemes_from list k))

-- the fault of a stop before so many tokens that are left
abbrev pub FaultAt : Stop → List Token → ℕ → ParseFault → Type 0
FaultAt stop.NoMemory list left f = f ≡ fault.NoMemory
FaultAt stop.Unexpected list left (fault.Syntax at) = (0 < left)
    × (at ≡ place list (length list - left))
FaultAt stop.Unexpected list left fault.RanOut = left ≡ 0
FaultAt stop.Unexpected list left _ = ⊥
FaultAt (stop.TooMany w) list left f = f ≡ fault.TooMany w (limit w)
