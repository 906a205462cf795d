-- Ids taken out of an index, and put into one.
use Rattle.std.specs.Prelude.{◌≡◌, ◌⊎◌, List, ℕ}
use Rattle.relations_spec.specs.Sets.{In, Ascends}
use Rattle.prima_base.specs.Order.{row_cmp}
use Rattle.prima_base.specs.declared.value.Value.{Value}
use Rattle.history_store_columns.specs.Log.{Write}
use Rattle.history_store_row_order.specs.Rows.{row_now, rows_of}
use Rattle.history_store_row_order.specs.Handing.{handed}

-- the index is split: into the ids whose rows these are, and the others in their order
pub record IsSplit (columns : List (List Write)) (live found kept : List ℕ)
    (lost : List (List Value)) : Type 0 where
  pub rows : rows_of found columns ≡ lost
  pub rises : Ascends row_cmp (rows_of kept columns)
  pub both : (q : ℕ) → In q live → In q found ⊎ In q kept
  pub found_in : (q : ℕ) → In q found → In q live
  pub kept_in : (q : ℕ) → In q kept → In q live
  pub apart : (q : ℕ) → In q found → In q kept → ⊥

-- an index has the ids that are kept and the new ones, in the order that their rows get
pub record IsJoined (columns : List (List Write)) (kept ids after : List ℕ)
    (gained : List (List Value)) : Type 0 where
  pub stay : (q : ℕ) → In q kept → In q after
  pub given : (q : ℕ) → In q ids → In q after
  pub only : (q : ℕ) → In q after → In q kept ⊎ In q ids
  pub order : (others : List (List Write)) → ((q : ℕ) → In q kept
      → row_now q others ≡ row_now q columns) → rows_of ids others ≡ gained
      → Ascends row_cmp (rows_of after others)

-- the ids of the lost rows are taken out of the index and those of the gained rows, which are the
-- lost ids in turn and then new ones, put in
pub record IsSpliced (columns : List (List Write)) (live : List ℕ) (lost : List (List Value))
    (next : ℕ) (gained : List (List Value)) (found after : List ℕ) : Type 0 where
  pub kept : List ℕ
  pub split : IsSplit columns live found kept lost
  pub joined : IsJoined columns kept (handed found next gained) after gained
