-- Ids in the order of the values of one column.
use Rattle.std.specs.Prelude.{◌⊎◌, ℕ, zero, suc, ◌+◌, List, [], ◌∷◌}
use Rattle.std.specs.List.{filter}
use Rattle.std.specs.Ordering.{nat_cmp, ordering_then}
use Rattle.std.specs.declared.cmp.Ordering.{Ordering}
use Rattle.relations_spec.specs.Sets.{In, Ascends}
use Rattle.prima_base.specs.Order.{row_cmp}
use Rattle.prima_base.specs.declared.value.Value.{Value}
use Rattle.history_store_columns.specs.Log.{Write, newest}
use Rattle.history_store_columns.specs.Puts.{is_value}

-- what a row has in a column, and the row's id: by the value, and then by the id
abbrev pub mark_cmp : List Value × ℕ → List Value × ℕ → Ordering
mark_cmp a b = ordering_then (row_cmp a.0 b.0) (nat_cmp a.1 b.1)

abbrev pub mark_of : List Write → ℕ → List Value × ℕ
mark_of cells id = (newest id cells, id)

-- ids by what their rows have in the column now, and then by themselves
abbrev pub by_value : List Write → ℕ → ℕ → Ordering
by_value cells i j = mark_cmp (mark_of cells i) (mark_of cells j)

abbrev pub Distinct : List ℕ → Type 0
Distinct [] = Unit {0}
Distinct (id ∷ ids) = (¬ (In id ids)) × Distinct ids

-- the first ids without the lost ones, in the order of a column
pub record IsWithout (cells : List Write) (lost before after : List ℕ) : Type 0 where
  pub rises : Ascends (by_value cells) after
  pub only : (q : ℕ) → In q after → In q before × (In q lost → ⊥)
  pub all : (q : ℕ) → In q before → (In q lost → ⊥) → In q after

-- the first ids and the new ones, in the order of a column
pub record IsWith (cells : List Write) (new before after : List ℕ) : Type 0 where
  pub rises : Ascends (by_value cells) after
  pub only : (q : ℕ) → In q after → In q before ⊎ In q new
  pub kept : (q : ℕ) → In q before → In q after
  pub given : (q : ℕ) → In q new → In q after

-- the ids of so many gained rows: the lost ids in turn, then new ones from `next` on
abbrev pub ids_handed : List ℕ → ℕ → ℕ → List ℕ
ids_handed lost next zero = []
ids_handed [] next (suc n) = next ∷ ids_handed [] (next + 1) n
ids_handed (id ∷ lost) next (suc n) = id ∷ ids_handed lost next n

-- those of the ids whose newest value this is
abbrev pub ids_with : Value → List Write → List ℕ → List ℕ
ids_with value cells ids = filter (λ id. is_value value (newest id cells)) ids
