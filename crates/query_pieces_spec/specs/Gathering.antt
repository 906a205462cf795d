-- Rows that are gathered part by part of a slice.
use Rattle.std.specs.Prelude.{◌≡◌, ℕ, true, false, List, []}
use Rattle.relations_spec.specs.Sets.{In}
use Rattle.relations_spec.specs.Spans.{Span, covers}
use Rattle.relations_spec.specs.Timed.{Entry, at}
use Rattle.prima_base.specs.Order.{row_cmp}
use Rattle.smo_ops_spec.specs.OneRow.{Row, Relation}

-- what holds at each moment of the part, and nothing outside it
pub record IsOfPart (relation : ℕ → Relation) (p : Span) (entries : List (Entry Row)) : Type 0 where
  pub inside : (m : ℕ) → covers p m ≡ true → at row_cmp entries m ≡ relation m
  pub outside : (m : ℕ) → covers p m ≡ false → at row_cmp entries m ≡ []

-- all that holds at the moments of these parts, and nothing else
pub record IsGathered (relation : ℕ → Relation) (parts : List Span) (entries : List (Entry Row)) :
    Type 0 where
  pub only : (x : Row) (m : ℕ) → In x (at row_cmp entries m) → In x (relation m)
  pub all : (p : Span) → In p parts → (x : Row) (m : ℕ) → covers p m ≡ true → In x (relation m)
      → In x (at row_cmp entries m)

-- one of the parts has the moment
abbrev pub HasMoment : List Span → ℕ → Type 0
HasMoment parts m = (p : Span) × In p parts × (covers p m ≡ true)
