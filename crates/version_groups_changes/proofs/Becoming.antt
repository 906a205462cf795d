-- What a prepared change makes of a stored table.
use Rattle.std.proofs.Common.{◌≡◌, ℕ, true, false, List, [], ◌∷◌, ◌++◌, length, refl, sym, ap}
use Rattle.std.proofs.Common.{subst, arith, cond}
use Rattle.std.specs.Prelude.{not}
use Rattle.relations_spec.specs.Sets.{has, set_of}
use Rattle.prima_base.specs.Order.{row_cmp}
use Rattle.prima_base.specs.declared.value.Value.{Value}
use Rattle.history_store.specs.Store.{Store, Cell, relation_at, AllBefore}
use Rattle.history_store.specs.Handing.{only_in}
use Rattle.history_store.specs.Change.{rows_along, changed}
use Rattle.smo_ops_spec.specs.Effects.{gained_rows}

-- a store that has other room and other indexes of columns alone
module _ (s t : Store) (n : ℕ) (i : List ℕ) (e : t ≡ record s { spare = n; indexed = i }) where
  pub same_relation : (m : ℕ) → relation_at t m ≡ relation_at s m
  unfolding relation_at
  same_relation m = ap (λ (u : Store). relation_at u m) e

  pub same_before : (m : ℕ) → AllBefore s m → AllBefore t m
  same_before m h = subst (λ (u : Store). AllBefore u m) (sym e)
      (record { keys = h.keys; cells = h.cells })

  pub same_columns : t.columns ≡ s.columns
  same_columns = ap (λ (u : Store). u.columns) e

pub only_is_gained : (xs others : List (List Value)) → only_in xs others ≡ gained_rows others xs
only_is_gained [] others = refl
only_is_gained (x ∷ xs) others =
    elim (has row_cmp x others) as (λ b. cond b (only_in xs others) (x ∷ only_in xs others)
    ≡ cond (not b) (x ∷ gained_rows others xs) (gained_rows others xs)) [
      | true ↦ only_is_gained xs others
      | false ↦ ap (λ l. x ∷ l) (only_is_gained xs others)
    ]

pub along_length : (ids : List ℕ) (m : ℕ) (columns : List (List Cell))
    → length (rows_along ids m columns) ≡ length ids
along_length [] m columns = refl
along_length (id ∷ ids) m columns = let e = along_length ids m columns in omega (arith, e)

only_in_none : (rows : List (List Value)) → only_in rows [] ≡ rows
only_in_none [] = refl
only_in_none (row ∷ rows) = ap (λ rs. row ∷ rs) (only_in_none rows)

pub added : (rows gained : List (List Value))
    → changed rows [] gained ≡ set_of row_cmp (rows ++ gained)
added rows gained = ap (λ rs. set_of row_cmp (rs ++ gained)) (only_in_none rows)
