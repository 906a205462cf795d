-- Worked rows: what is told of the rows of two moments, of no group and of a group of one value.
use Rattle.std.specs.Prelude.{◌≡◌, ℕ, pos, List, [], ◌∷◌, codes}
use Rattle.std.proofs.Common.{refl}
use Rattle.relations_spec.specs.Sets.{set_of}
use Rattle.prima_base.specs.declared.value.Value.TheVariants.{Int, Text}
use Rattle.temporal_lang_types.specs.declared.agg_item.AggItem.{AggItem}
use Rattle.temporal_lang_types.specs.declared.agg_item.AggItem.TheVariants.{Count, Min, Max, Sum}
use Rattle.prima_base.specs.Groups.{count, one, sum}
use Rattle.time_aggregate.specs.Aggregates.{Row, groups, least, greatest}

abbrev int : ℕ → Row
int n = Int (pos n) ∷ []

abbrev four : List AggItem
four = Count ∷ Min 1 ∷ Max 1 ∷ Sum 1 ∷ []

pub at_three : groups 0 four (int 1 ∷ int 20 ∷ []) ≡ record {
  key = [];
  amounts =
      count 2 ∷ one (Int (pos 1)) ∷ one (Int (pos 20)) ∷ sum (pos 21) ∷ [];
} ∷ []
unfolding groups least greatest set_of
at_three = refl

pub at_six : groups 0 four (int 1 ∷ int 7 ∷ int 20 ∷ int 30 ∷ []) ≡ record {
  key = [];
  amounts =
      count 4 ∷ one (Int (pos 1)) ∷ one (Int (pos 30)) ∷ sum (pos 58) ∷ [];
} ∷ []
unfolding groups least greatest set_of
at_six = refl

abbrev coloured : List ℕ → ℕ → Row
coloured colour n = Text colour ∷ Int (pos n) ∷ []

pub at_two : groups 1 (Count ∷ []) (coloured (codes "red") 1 ∷ [])
    ≡ record { key = Text (codes "red") ∷ []; amounts = count 1 ∷ [] } ∷ []
unfolding groups set_of
at_two = refl

pub at_four : groups 1 (Count ∷ []) (coloured (codes "unknown") 1 ∷ coloured (codes "unknown") 2
    ∷ []) ≡ record { key = Text (codes "unknown") ∷ []; amounts = count 2 ∷ [] } ∷ []
unfolding groups set_of
at_four = refl

pub of_none : groups 0 four [] ≡ []
unfolding groups set_of
of_none = refl
