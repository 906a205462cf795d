-- The loss that is found first, part after part of a slice.
use Rattle.std.specs.Prelude.{ℕ, ◌≤◌, List, [], ◌∷◌, Option, None, ⊤}
use Rattle.std.specs.Option.{option_or}
use Rattle.smo_ops_types.specs.Commands.{PlainVersion}
use Rattle.smo_ops_spec.specs.Losses.{Loss}
use Rattle.period_split.specs.Splitting.{Part}
use Rattle.temporal_lang_types.specs.Queries.{PlainQuery}
use Rattle.temporal_lang_spec.specs.Losing.{loss_from}

-- the loss from the first of the parts' versions from which there is one
abbrev pub first_among : List PlainVersion → PlainQuery → List Part → Option Loss
first_among versions query [] = None
first_among versions query (p ∷ parts) = option_or (loss_from versions p.1 query)
    (first_among versions query parts)

-- the version of each part is one of so many after version 0
abbrev pub AllUpTo : ℕ → List Part → Type 0
AllUpTo n [] = ⊤
AllUpTo n (p ∷ parts) = (p.1 ≤ n) × AllUpTo n parts
