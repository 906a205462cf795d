-- What bytes are: the spelling of a command or of a part of one, or where the first fault stands.
use Rattle.std.specs.Prelude.{◌≡◌, ℕ, ◌+◌, ◌-◌, ◌<◌, ◌≤◌, List, ◌++◌, length, take, drop}
use Rattle.prima_base.specs.Bytes.{IsName}
use Rattle.prima_base.specs.Columns.{IsValid}
use Rattle.prima_base.specs.declared.value.Value.{Value}
use Rattle.smo_ops_types.specs.Operators.{Operator}
use Rattle.smo_ops_types.specs.Commands.{PlainCommand}
use Rattle.command_codec_spec.specs.Encoding.{name_bytes, value_bytes, operator_bytes}
use Rattle.command_codec_spec.specs.Encoding.{command_bytes}
use Rattle.command_codec_spec.specs.Valid.{IsOperator, IsCommand}

-- ---- spellings

-- these bytes spell this command
abbrev pub Encodes : PlainCommand → List ℕ → Type 0
Encodes c bytes = IsCommand c × (bytes ≡ command_bytes c)

abbrev pub EncodesName : List ℕ → List ℕ → Type 0
EncodesName n bytes = IsName n × (bytes ≡ name_bytes n)

abbrev pub EncodesValue : Value → List ℕ → Type 0
EncodesValue v bytes = IsValid v × (bytes ≡ value_bytes v)

abbrev pub EncodesOperator : Operator → List ℕ → Type 0
EncodesOperator op bytes = IsOperator op × (bytes ≡ operator_bytes op)

-- after the old bytes the new have a spelling of it
abbrev pub Appends : {A : Type 0} → (A → List ℕ → Type 0) → A → List ℕ → List ℕ → Type 0
Appends S a old new = (bytes : List ℕ) × S a bytes × (new ≡ old ++ bytes)

-- some spelling begins with these bytes
abbrev pub GoesOn : {A : Type 0} → (A → List ℕ → Type 0) → List ℕ → Type 0
GoesOn {A} S prefix = (more : List ℕ) × (a : A) × S a (prefix ++ more)

-- no prefix of the bytes is a spelling; and at the place stands the first byte with which none goes
-- on, or the bytes end there
pub record IsBadAt {A : Type 0} (S : A → List ℕ → Type 0) (bytes : List ℕ) (place : ℕ) :
    Type 0 where
  pub within : place ≤ length bytes
  pub goes : GoesOn S (take place bytes)
  pub halts : place < length bytes → GoesOn S (take (place + 1) bytes) → ⊥
  pub none : (a : A) (k : ℕ) → S a (take k bytes) → ⊥

-- ---- whole commands

pub data Decoding : Type 0 where
  whole : PlainCommand → Decoding
  bad_at : ℕ → Decoding
  -- a command's spelling ends before the place, and more stands there
  rest_at : ℕ → Decoding

-- what the bytes are
abbrev pub IsDecoding : List ℕ → Decoding → Type 0
IsDecoding bytes (whole c) = Encodes c bytes
IsDecoding bytes (bad_at place) = IsBadAt Encodes bytes place
IsDecoding bytes (rest_at place) = (place < length bytes) × (c : PlainCommand)
    × Encodes c (take place bytes)

-- ---- parts

pub data Part (A : Type 0) : Type 0 where
  -- the part, and the place after it
  part : A → ℕ → Part A
  no_part : ℕ → Part A
  more : ℕ → Part A

-- what stands at `from`
abbrev pub IsPart : {A : Type 0} → (A → List ℕ → Type 0) → List ℕ → ℕ → Part A → Type 0
IsPart S bytes from (part a to) = (from ≤ to) × (to ≤ length bytes)
    × S a (take (to - from) (drop from bytes))
IsPart S bytes from (no_part place) = (from ≤ place) × IsBadAt S (drop from bytes) (place - from)
IsPart S bytes from (more place) = ⊥
