-- Kept columns stay in the order of their names.
use Rattle.std.proofs.Common.{ℕ, Bool, true, false, List, [], ◌∷◌}
use Rattle.std.specs.Prelude.{cond}
use Rattle.std.specs.List.{filter}
use Rattle.prima_base.specs.Order.{bytes_cmp}
use Rattle.relations_spec.specs.Sets.{BeforeAll}
use Rattle.prima_base.specs.Columns.{Column, names_of, AreColumns}

module _ (p : Column → Bool) where
  before_kept : (n : List ℕ) (cs : List Column) → BeforeAll bytes_cmp n (names_of cs)
      → BeforeAll bytes_cmp n (names_of (filter p cs))
  before_kept n [] h = tt
  before_kept n (c ∷ cs) h = elim (p c) as (λ b.
      BeforeAll bytes_cmp n (names_of (cond b (c ∷ filter p cs) (filter p cs)))) [
        | true ↦ (h.0, before_kept n cs h.1)
        | false ↦ before_kept n cs h.1
      ]

  pub kept_are_columns : (cs : List Column) → AreColumns cs → AreColumns (filter p cs)
  kept_are_columns [] h = tt
  kept_are_columns (c ∷ cs) h = elim (p c) as (λ b.
      AreColumns (cond b (c ∷ filter p cs) (filter p cs))) [
        | true ↦ (before_kept c.0 cs h.0, kept_are_columns cs h.1)
        | false ↦ kept_are_columns cs h.1
      ]
