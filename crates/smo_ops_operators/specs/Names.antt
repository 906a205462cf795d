-- The at most two names of tables that are answered of an operator.
use Rattle.std.specs.Prelude.{ℕ, List, Bool}
use Rattle.std.specs.Option.{option_copied}
use Rattle.smo_ops_spec.specs.Preconditions.{among}
use Rattle.smo_ops_spec.specs.Touching.{these_names}
use Rattle.smo_ops_operators.specs.declared.name.Made.{Made}

-- the name is one of them
abbrev pub is_one_of : Made → List ℕ → Bool
is_one_of names name = among name (these_names (option_copied names.first)
    (option_copied names.second))
