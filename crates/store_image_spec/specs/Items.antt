-- Reading an image item by item. Where one is not as it must be, by its own bytes or by what was
-- read before it, its first byte is named.
use Rattle.std.specs.Prelude.{ℕ, Bool, List, if◌then◌else◌}
use Rattle.command_codec_spec.specs.Reading.{Out, Parsed, Unexpected, Parser}

-- where it cannot be read, its first byte is named
abbrev pub named_at : {A : Type 0} → List ℕ → Out A → Out A
named_at ts (Parsed a rest) = Parsed a rest
named_at ts (Unexpected rest) = Unexpected ts

abbrev pub item : {A : Type 0} → Parser A → Parser A
item p = λ ts. named_at ts (p ts)

-- what was read is checked, and where it is not right its first byte is named
abbrev pub if_right : {A : Type 0} → List ℕ → (A → Bool) → Out A → Out A
if_right ts right (Parsed a rest) = if right a then Parsed a rest else Unexpected ts
if_right ts right (Unexpected rest) = Unexpected rest

abbrev pub checked : {A : Type 0} → (A → Bool) → Parser A → Parser A
checked right p = λ ts. if_right ts right (p ts)

-- nothing may stand here
abbrev pub missing : {A : Type 0} → Parser A
missing = λ ts. Unexpected ts
