-- Choices of one member of each of several lists.
use Rattle.std.specs.Prelude.{List, [], ◌∷◌, map, ⊤}
use Rattle.std.specs.List.{flat_map}
use Rattle.relations_spec.specs.Sets.{In}

-- one member of each list
abbrev pub Chosen : {X : Type 0} → List X → List (List X) → Type 0
Chosen [] [] = ⊤
Chosen [] (xs ∷ rest) = ⊥
Chosen (x ∷ choice) [] = ⊥
Chosen (x ∷ choice) (xs ∷ rest) = In x xs × Chosen choice rest

-- all of them
abbrev pub choices : {X : Type 0} → List (List X) → List (List X)
choices [] = [] ∷ []
choices (xs ∷ rest) = flat_map (λ x. map (λ c. x ∷ c) (choices rest)) xs
