-- The order of values, names and rows, the value that a `Val` shows, and the bytes of a value.
use Rattle.std.specs.Prelude.{ℕ, Bool, true, false, List, [], ◌∷◌, ⊤}
use Rattle.std.specs.declared.cmp.Ordering.{Ordering}
use Rattle.std.specs.declared.cmp.Ordering.TheVariants.{Less, Greater}
use Rattle.std.specs.Ordering.{nat_cmp, int_cmp, eq_by_cmp, is_eq}
use Rattle.std.specs.Cmp.Lexicographic.{slice_cmp}
use Rattle.prima_base.specs.declared.value.Value.{Value}
use Rattle.prima_base.specs.declared.value.Value.TheVariants.{Int, Text}
use Rattle.prima_base.specs.declared.value.Val.{Val}
use Rattle.prima_base.specs.declared.value.Val.TheVariants.{Int as ValInt, Slice, Own}

-- texts and names, by their bytes
abbrev pub bytes_cmp : List ℕ → List ℕ → Ordering
bytes_cmp = slice_cmp nat_cmp

-- two names are one
abbrev pub same : List ℕ → List ℕ → Bool
same a b = is_eq (bytes_cmp a b)

-- every INT before every TEXT, INTs by number, TEXTs by their bytes
abbrev pub value_cmp : Value → Value → Ordering
value_cmp (Int a) (Int b) = int_cmp a b
value_cmp (Int a) (Text b) = Less
value_cmp (Text a) (Int b) = Greater
value_cmp (Text a) (Text b) = slice_cmp nat_cmp a b

-- rows, value by value
abbrev pub row_cmp : List Value → List Value → Ordering
row_cmp = slice_cmp value_cmp

-- the value that a `Val` shows
abbrev pub shown : Val → Value
shown (ValInt n) = Int n
shown (Slice s) = Text s.now
shown (Own t) = Text t

-- those of a text; a number has none
abbrev pub bytes_of : Value → List ℕ
bytes_of (Int n) = []
bytes_of (Text t) = t

-- where it is a text, its bytes lie elsewhere
abbrev pub IsBorrowed : Val → Type 0
IsBorrowed (ValInt n) = ⊤
IsBorrowed (Slice s) = ⊤
IsBorrowed (Own t) = ⊥

-- so it is of each
abbrev pub AreBorrowed : List Val → Type 0
AreBorrowed [] = ⊤
AreBorrowed (v ∷ vs) = IsBorrowed v × AreBorrowed vs

-- a text that lies elsewhere
abbrev pub is_borrowed : Val → Bool
is_borrowed (ValInt n) = false
is_borrowed (Slice s) = true
is_borrowed (Own t) = false

-- two values are equal where neither is before the other
abbrev pub value_eq : Value → Value → Bool
value_eq a b = eq_by_cmp value_cmp a b
