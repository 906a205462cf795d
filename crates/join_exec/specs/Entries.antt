-- What rows have by the entries of columns.
use Rattle.std.specs.Prelude.{◌≡◌, ◌⊎◌, ℕ, ◌<◌, ◌≤◌, true, List, [], ◌∷◌, ⊤}
use Rattle.relations_spec.specs.Sets.{In}
use Rattle.relations_spec.specs.Spans.{covers}
use Rattle.prima_base.specs.declared.value.Value.{Value}
use Rattle.history_store_spec.specs.Store.{Cell}

-- at the moment the row with the id has the value, by these entries of a column
abbrev pub Has : List Cell → ℕ → Value → ℕ → Type 0
Has cells id v m = (c : Cell) × In c cells × (c.id ≡ id) × (c.value ≡ v)
    × (covers c.period m ≡ true)

-- at the moment the row has these values, one by the entries of each column
abbrev pub HasRow : List (List Cell) → ℕ → List Value → ℕ → Type 0
HasRow [] id [] m = ⊤
HasRow [] id (v ∷ row) m = ⊥
HasRow (cells ∷ columns) id [] m = ⊥
HasRow (cells ∷ columns) id (v ∷ row) m = Has cells id v m × HasRow columns id row m

-- it is of a lower id, or of the same and over when the other begins
abbrev pub Precedes : Cell → Cell → Type 0
Precedes a b = (a.id < b.id) ⊎ ((a.id ≡ b.id) × (a.period.end ≤ b.period.start))

abbrev pub PrecedesAll : Cell → List Cell → Type 0
PrecedesAll a [] = ⊤
PrecedesAll a (b ∷ bs) = Precedes a b × PrecedesAll a bs

-- the entries ascend by id, and those of one id follow one another
abbrev pub InTurn : List Cell → Type 0
InTurn [] = ⊤
InTurn (a ∷ cells) = PrecedesAll a cells × InTurn cells

-- so do those of each column
abbrev pub AllInTurn : List (List Cell) → Type 0
AllInTurn [] = ⊤
AllInTurn (cells ∷ columns) = InTurn cells × AllInTurn columns
