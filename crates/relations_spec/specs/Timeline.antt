-- A relation that changes over time, kept as its stages: from each stage's start on it is the
-- stage's.
use Rattle.std.specs.Prelude.{ℕ, ◌<◌, ◌++◌, List, [], ◌∷◌, Option, Some, None, nat_le, ⊤}
use Rattle.std.specs.Prelude.{if◌then◌else◌}
use Rattle.std.specs.declared.cmp.Ordering.{Ordering}
use Rattle.relations_spec.specs.Sets.{has, set_of}
use Rattle.relations_spec.specs.Spans.{Span, span, forever}
use Rattle.relations_spec.specs.Timed.{Entry}

pub record Stage (X : Type 0) : Type 0 where
  pub start : ℕ
  pub items : List X

-- the relation at a moment: that of the last stage that has begun, and `before` where none has
abbrev pub relation_from : {X : Type 0} → List X → List (Stage X) → ℕ → List X
relation_from before [] m = before
relation_from before (s ∷ stages) m = if nat_le s.start m then relation_from s.items stages m
    else before

abbrev pub relation_at : {X : Type 0} → List (Stage X) → ℕ → List X
relation_at stages m = relation_from [] stages m

-- the stages begin one after the other, each above `low`, and none at the end of time
abbrev pub StagesFollow : {X : Type 0} → ℕ → List (Stage X) → Type 0
StagesFollow low [] = ⊤
StagesFollow low (s ∷ stages) = (low < s.start) × (s.start < forever) × StagesFollow s.start stages

abbrev pub IsTimeline : {X : Type 0} → List (Stage X) → Type 0
IsTimeline [] = ⊤
IsTimeline (s ∷ stages) = (s.start < forever) × StagesFollow s.start stages

-- the longest periods in which the stages have the item; `since` is when the period began that
-- still goes on
abbrev pub runs : {X : Type 0} → (X → X → Ordering) → X → Option ℕ → List (Stage X) → List Span
runs cmp x None [] = []
runs cmp x (Some since) [] = span since forever ∷ []
runs cmp x None (s ∷ stages) = if has cmp x s.items then runs cmp x (Some s.start) stages
    else runs cmp x None stages
runs cmp x (Some since) (s ∷ stages) = if has cmp x s.items then runs cmp x (Some since) stages
    else span since s.start ∷ runs cmp x None stages

abbrev pub all_items : {X : Type 0} → List (Stage X) → List X
all_items [] = []
all_items (s ∷ stages) = s.items ++ all_items stages

abbrev pub with_item : {X : Type 0} → X → List Span → List (Entry X)
with_item x [] = []
with_item x (p ∷ periods) = record { item = x; period = p } ∷ with_item x periods

-- each item in its order, with its longest periods
abbrev pub listed : {X : Type 0} → (X → X → Ordering) → List (Stage X) → List X → List (Entry X)
listed cmp stages [] = []
listed cmp stages (x ∷ items) = with_item x (runs cmp x None stages) ++ listed cmp stages items

unfoldable pub listing_of : {X : Type 0} → (X → X → Ordering) → List (Stage X) → List (Entry X)
listing_of cmp stages = listed cmp stages (set_of cmp (all_items stages))
