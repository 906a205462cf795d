-- The least value of a type, and the next value after one: nothing of the type lies between the
-- two.
use Rattle.std.specs.Prelude.{ℕ, ◌+◌, ◌-◌, ◌^◌, ◌==◌, ◌&&◌, ◌||◌, ◌++◌, List, [], ◌∷◌, Bool, true}
use Rattle.std.specs.Prelude.{not, Option, Some, None, nat_lt, length, pos, neg_ℤ, ◌+ℤ◌}
use Rattle.std.specs.Prelude.{if◌then◌else◌}
use Rattle.std.specs.Ordering.{int_cmp, is_lt}
use Rattle.prima_base.specs.declared.value.Value.{Value}
use Rattle.prima_base.specs.declared.value.Value.TheVariants.{Int, Text}
use Rattle.prima_base.specs.declared.value.ColType.{ColType}
use Rattle.prima_base.specs.declared.value.ColType.TheVariants.{Int as INT, Text as TEXT}
use Rattle.prima_base.specs.Limits.{max_text}

abbrev pub least : ColType → Value
least INT = Int (neg_ℤ (pos (2 ^ 63)))
least TEXT = Text []

-- the next byte of a text; 0x7F is none
abbrev pub raised : ℕ → ℕ
raised b = if b == 126 then 128 else b + 1

-- each byte is the greatest
abbrev pub all_top : List ℕ → Bool
all_top [] = true
all_top (b ∷ bytes) = (b == 255) && all_top bytes

-- the last byte that can be raised is raised, and what stands after it is dropped
abbrev pub raise : List ℕ → List ℕ
raise [] = []
raise (b ∷ bytes) = if all_top bytes then raised b ∷ [] else b ∷ raise bytes

-- a text with the least byte after it; where there is no room, it is raised
abbrev pub after : List ℕ → List ℕ
after t = if nat_lt (length t) max_text then t ++ 32 ∷ [] else raise t

abbrev pub next : Value → Value
next (Int n) = Int (n +ℤ pos 1)
next (Text t) = Text (after t)

-- it is not the greatest of its type
abbrev pub has_next : Value → Bool
has_next (Int n) = is_lt (int_cmp n (pos (2 ^ 63 - 1)))
has_next (Text t) = nat_lt (length t) max_text || not (all_top t)

-- the next value, where there is one; and of a text
abbrev pub following : Value → Option Value
following v = if has_next v then Some (next v) else None

abbrev pub following_text : List ℕ → Option Value
following_text t = following (Text t)
