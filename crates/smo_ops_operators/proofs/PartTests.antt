-- What the parts of a table are asked.
use Rattle.std.proofs.Common.{ℕ, List, [], ◌∷◌, ◌++◌}
use Rattle.std.specs.Prelude.{Option}
use Rattle.prima_base.specs.declared.refusal.OpRefusal.{OpRefusal}
use Rattle.prima_base.specs.Columns.{Column}
use Rattle.smo_ops_spec.specs.Preconditions.{each_known, each_once, cover}

-- where its columns are these
abbrev pub part_tests : List ℕ → List Column → List ℕ → List (List ℕ) → List ℕ → List (List ℕ)
    → List (Option OpRefusal)
part_tests r cs s xs t ys = each_known r cs (xs ++ ys) ∷ each_once s xs ∷ each_once t ys
    ∷ cover r cs xs ys ∷ []
