-- Reading from the start of bytes, and what it says of a format.
--
-- A format of a kind of value is two things: which values have a spelling, and which bytes spell
-- each. `IsCorrectParser` says of a reader that it is one for the format: what it reads is spelled
-- so, what is spelled so is read, whatever follows, and a fault stands at the first byte with which
-- no spelling goes on.
use Rattle.std.specs.Prelude.{◌≡◌, ℕ, zero, suc, ◌+◌, ◌*◌, ◌/◌, ◌^◌, Bool, ◌&&◌, nat_lt, nat_le}
use Rattle.std.specs.Prelude.{if◌then◌else◌, List, [], ◌∷◌, ◌++◌}

-- what was read and what stands after it; or what stands from the byte on with which it does not go
-- on
pub data Out (A : Type 0) : Type 0 where
  Parsed : A → List ℕ → Out A
  Unexpected : List ℕ → Out A

abbrev pub Parser : Type 0 → Type 0
Parser A = List ℕ → Out A

-- these bytes begin a spelling
abbrev pub Begins : {A : Type 0} → (A → Type 0) → (A → List ℕ) → List ℕ → Type 0
Begins {A} Is encode prefix = (more : List ℕ) × (a : A) × Is a × (encode a ≡ prefix ++ more)

-- where a byte follows that is refused, it is refused whatever follows it
abbrev pub Same : {A : Type 0} → Parser A → List ℕ → List ℕ → Type 0
Same p prefix [] = Unit {0}
Same p prefix (x ∷ suffix) = (other : List ℕ) → p (prefix ++ x ∷ other) ≡ Unexpected (x ∷ other)

-- what reading says of the bytes
abbrev pub Explains : {A : Type 0} → Parser A → (A → Type 0) → (A → List ℕ) → List ℕ → Out A
    → Type 0
Explains p Is encode ts (Parsed a suffix) = Is a × (ts ≡ encode a ++ suffix)
Explains p Is encode ts (Unexpected suffix) = (prefix : List ℕ) × (ts ≡ prefix ++ suffix)
    × Begins Is encode prefix × Same p prefix suffix

pub record IsCorrectParser {A : Type 0} (p : Parser A) (Is : A → Type 0) (encode : A → List ℕ) :
    Type 0 where
  pub one : A
  pub live : Is one
  pub explains : (ts : List ℕ) → Explains p Is encode ts (p ts)
  pub complete : (a : A) → Is a → (suffix : List ℕ) → p (encode a ++ suffix) ≡ Parsed a suffix

-- ---- readers

-- one after the other
abbrev pub and_then : {A B : Type 0} → Out A → (A → Parser B) → Out B
and_then (Parsed a suffix) f = f a suffix
and_then (Unexpected suffix) f = Unexpected suffix

abbrev pub bind : {A B : Type 0} → Parser A → (A → Parser B) → Parser B
bind p f = λ ts. and_then (p ts) f

-- no byte
abbrev pub pure : {A : Type 0} → A → Parser A
pure a = λ ts. Parsed a ts

abbrev pub map_to : {A B : Type 0} → (A → B) → Parser A → Parser B
map_to f p = bind p (λ a. pure (f a))

-- two, one after the other
abbrev pub pair : {A B : Type 0} → Parser A → Parser B → Parser (A × B)
pair p q = bind p (λ a. map_to (λ b. (a, b)) q)

-- one byte, if the test takes it
abbrev pub byte_by : (ℕ → Bool) → List ℕ → Out ℕ
byte_by takes [] = Unexpected []
byte_by takes (x ∷ ts) = if takes x then Parsed x ts else Unexpected (x ∷ ts)

abbrev pub byte : (ℕ → Bool) → Parser ℕ
byte takes = λ ts. byte_by takes ts

-- a byte, and by it what follows
abbrev pub by_tag : {A : Type 0} → (ℕ → Bool) → (ℕ → Parser A) → Parser A
by_tag takes arm = bind (byte takes) arm

-- so many bytes, each of which the test takes
unfoldable pub run : (ℕ → Bool) → ℕ → Parser (List ℕ)
run takes zero = pure []
run takes (suc k) = bind (byte takes) (λ b. map_to (λ l. b ∷ l) (run takes k))

-- so many more bytes of a number, which is at most `most`, after those that make `n`
unfoldable pub digits : ℕ → ℕ → ℕ → Parser ℕ
digits most zero n = pure n
digits most (suc k) n = bind (byte (λ b. nat_lt b 256 && nat_le (n * 256 + b) (most / 2 ^ (8 * k))))
    (λ b. digits most k (n * 256 + b))

-- so many
unfoldable pub items : {A : Type 0} → Parser A → ℕ → Parser (List A)
items p zero = pure []
items p (suc k) = bind p (λ a. map_to (λ l. a ∷ l) (items p k))

-- a count of so many bytes, at most `most`, and that many
abbrev pub list_parser : {A : Type 0} → ℕ → ℕ → Parser A → Parser (List A)
list_parser k most p = bind (digits most k 0) (λ n. items p n)

-- after what was read before
abbrev pub prepend : {A : Type 0} → List A → Out (List A) → Out (List A)
prepend prefix (Parsed l suffix) = Parsed (prefix ++ l) suffix
prepend prefix (Unexpected suffix) = Unexpected suffix
