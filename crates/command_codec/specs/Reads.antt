-- What a function that reads ensures.
use Rattle.std.specs.Prelude.{◌≡◌, ℕ, List, Result, Ok, Err}
use Rattle.command_codec.specs.declared.reader.ReadStop.{ReadStop}
use Rattle.command_codec.specs.declared.reader.ReadStop.TheVariants as stop
use Rattle.command_codec_spec.specs.Reading.{Out, Parsed, Unexpected}

-- it stands at the byte with which nothing goes on; running out of memory is free
abbrev pub Fails : {A : Type 0} → Out A → ReadStop → List ℕ → Type 0
Fails out stop.NoMemory new = Unit {0}
Fails out stop.Unexpected new = out ≡ Unexpected new

-- it was read, or failed, as reading says
abbrev pub Reads : {A X : Type 0} → (X → A) → Out A → Result X ReadStop → List ℕ → Type 0
Reads view out (Ok x) new = out ≡ Parsed (view x) new
Reads view out (Err e) new = Fails out e new

-- ---- functions that take no memory: their one error is that nothing goes on

-- it stands at the byte with which nothing goes on
abbrev pub Halts : {A E : Type 0} → Out A → E → List ℕ → Type 0
Halts out e new = out ≡ Unexpected new

-- it was read, or not, as reading says
abbrev pub ReadsInPlace : {A X E : Type 0} → (X → A) → Out A → Result X E → List ℕ → Type 0
ReadsInPlace view out (Ok x) new = out ≡ Parsed (view x) new
ReadsInPlace view out (Err e) new = Halts out e new

-- something was read, and this stands after it
pub record Passes {A : Type 0} (out : Out A) (new : List ℕ) : Type 0 where
  pub read : A
  pub got : out ≡ Parsed read new

-- the bytes were recognized as a spelling, of which nothing is kept, or not, as reading says
abbrev pub Recognizes : {A X E : Type 0} → Out A → Result X E → List ℕ → Type 0
Recognizes out (Ok x) new = Passes out new
Recognizes out (Err e) new = Halts out e new
