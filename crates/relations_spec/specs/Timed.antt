-- Items with periods, and the relation that they make at each moment.
use Rattle.std.specs.Prelude.{ℕ, List, [], ◌∷◌, if◌then◌else◌}
use Rattle.std.specs.declared.cmp.Ordering.{Ordering}
use Rattle.relations_spec.specs.Sets.{set_of}
use Rattle.relations_spec.specs.Spans.{Span, covers}

pub record Entry (X : Type 0) : Type 0 where
  pub item : X
  pub period : Span

-- the items whose period has the moment
abbrev pub held_at : {X : Type 0} → List (Entry X) → ℕ → List X
held_at [] m = []
held_at (e ∷ entries) m = if covers e.period m then e.item ∷ held_at entries m
    else held_at entries m

-- the relation at the moment
unfoldable pub at : {X : Type 0} → (X → X → Ordering) → List (Entry X) → ℕ → List X
at cmp entries m = set_of cmp (held_at entries m)
