-- One more period of a group, listed.
use Rattle.std.specs.Prelude.{◌≡◌, ℕ, ◌<◌, ◌≤◌, ◌⊎◌, List, [], ◌∷◌, ◌++◌}
use Rattle.relations_spec.specs.Spans.{span}
use Rattle.relations_spec.specs.Timed.{Entry}
use Rattle.prima_base.specs.declared.value.Value.{Value}
use Rattle.temporal_lang_types.specs.declared.agg_item.AggItem.{AggItem}
use Rattle.prima_base.specs.Groups.{Amount, Group}
use Rattle.time_aggregate.specs.Aggregates.{Row, amounts_of}

-- the last of the entries
abbrev pub IsLast : {X : Type 0} → List (Entry X) → List (Entry X) → Entry X → Type 0
IsLast entries init e = entries ≡ init ++ e ∷ []

-- the last of the entries tells so up to the moment
abbrev pub EndsSo : List (Entry Group) → List Amount → ℕ → Type 0
EndsSo entries amounts moment = (init : List (Entry Group)) × (e : Entry Group)
    × IsLast entries init e × (e.item.amounts ≡ amounts) × (e.period.end ≡ moment)

-- the entry is there: it goes on from the last that tells the same up to it, or comes after all
abbrev pub IsPut : List (Entry Group) → Entry Group → List (Entry Group) → Type 0
IsPut before e after =
    ((init : List (Entry Group)) × (last : Entry Group) × IsLast before init last
    × (last.item.amounts ≡ e.item.amounts) × (last.period.end ≡ e.period.start)
    × (after ≡ init ++ record last { period = span last.period.start e.period.end } ∷ []))
    ⊎ ((¬ EndsSo before e.item.amounts e.period.start) × (after ≡ before ++ e ∷ []))

-- the group of these rows, where there is any
abbrev pub group_of_rows : List Value → List AggItem → List Row → List Group
group_of_rows key items [] = []
group_of_rows key items (row ∷ rows) =
    record { key = key; amounts = amounts_of items (row ∷ rows) } ∷ []

-- what is told of the rows is listed from the one moment up to, and not at, the other
abbrev pub IsTold : List (Entry Group) → List Value → List AggItem → List Row → ℕ → ℕ
    → List (Entry Group) → Type 0
IsTold before key items [] from to after = after ≡ before
IsTold before key items (row ∷ rows) from to after = (to ≤ from → after ≡ before)
    × (from < to → IsPut before (record {
      item = record {
        key = key;
        amounts =
            amounts_of items (row ∷ rows);
      };
      period = span from to;
    }) after)
