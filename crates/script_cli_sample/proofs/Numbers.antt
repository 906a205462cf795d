-- The first number that stays, and those that are passed over.
use Rattle.std.proofs.Common.{◌≡◌, ℕ, ◌+◌, ◌<◌, ◌≤◌, true, false, [], ◌∷◌, ap, ◌∙◌}
use Rattle.std.specs.Prelude.{filter}
use Rattle.std.proofs.iter.Rest.{range_with_len_first, range_with_len_none}
use Rattle.script_cli_sample.specs.Statements.{numbers, is_hot}

module _ (i to : ℕ) where
  pub hot : i < to → is_hot i ≡ true → filter is_hot (numbers i to) ≡ i
      ∷ filter is_hot (numbers (i + 1) to)
  hot h e = ap (filter is_hot) (range_with_len_first i to h) ∙ rw e

  pub past : i < to → is_hot i ≡ false → filter is_hot (numbers i to)
      ≡ filter is_hot (numbers (i + 1) to)
  past h e = ap (filter is_hot) (range_with_len_first i to h) ∙ rw e

  pub none : to ≤ i → filter is_hot (numbers i to) ≡ []
  none h = ap (filter is_hot) (range_with_len_none i to h)
