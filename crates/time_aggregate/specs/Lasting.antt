-- What changes from moment to moment, and the periods in which it stays the same.
use Rattle.std.specs.Prelude.{ℕ, List, [], ◌∷◌, ◌++◌, Bool, false, Option, Some, None, nat_le}
use Rattle.std.specs.Prelude.{if◌then◌else◌}
use Rattle.relations_spec.specs.Spans.{span, forever}
use Rattle.relations_spec.specs.Timed.{Entry}

-- what there is from a moment on, up to the next step; none where there is nothing
pub record Step (A : Type 0) : Type 0 where
  pub moment : ℕ
  pub there : Option A

-- what there is at a moment: that of the last step that has come, and `before` where none has
abbrev pub there_at : {A : Type 0} → Option A → List (Step A) → ℕ → Option A
there_at before [] m = before
there_at before (s ∷ steps) m = if nat_le s.moment m then there_at s.there steps m else before

-- it is there
abbrev pub is_there : {A : Type 0} → (A → A → Bool) → A → Option A → Bool
is_there same a None = false
is_there same a (Some b) = same a b

-- the moment up to which it stays: that of the first step from which on it is not there
abbrev pub end_of : {A : Type 0} → (A → A → Bool) → A → List (Step A) → ℕ
end_of same a [] = forever
end_of same a (s ∷ steps) = if is_there same a s.there then end_of same a steps else s.moment

-- what begins at a step, with how long it stays: nothing where it was there before
abbrev pub begun : {A : Type 0} → (A → A → Bool) → Option A → Option A → ℕ → List (Step A)
    → List (Entry A)
begun same before None moment steps = []
begun same before (Some a) moment steps = if is_there same a before then []
    else record { item = a; period = span moment (end_of same a steps) } ∷ []

-- all that begins at a step, in turn
abbrev pub lasting : {A : Type 0} → (A → A → Bool) → Option A → List (Step A) → List (Entry A)
lasting same before [] = []
lasting same before (s ∷ steps) =
    begun same before s.there s.moment steps ++ lasting same s.there steps
