-- The choices of one member of each list.
use Rattle.std.proofs.Common.{List, [], ◌∷◌, map, refl, subst, inl, inr}
use Rattle.relations_spec.specs.Sets.{In}
use Rattle.relations_spec.specs.Choices.{Chosen, choices}
use Rattle.relations_spec.proofs.SetLaws.{in_map, from_map, in_flat_map, from_flat_map}

pub in_choices : {X : Type 0} (choice : List X) (lists : List (List X)) → Chosen choice lists
    → In choice (choices lists)
in_choices [] [] h = inl refl
in_choices [] (xs ∷ rest) h = absurd h
in_choices (x ∷ choice) [] h = absurd h
in_choices {X} (x ∷ choice) (xs ∷ rest) h =
    in_flat_map (λ (y : X). map (λ c. y ∷ c) (choices rest)) x (x ∷ choice) xs h.0
    (in_map (λ c. x ∷ c) choice (choices rest) (in_choices choice rest h.1))

pub from_choices : {X : Type 0} (choice : List X) (lists : List (List X))
    → In choice (choices lists)
    → Chosen choice lists
from_choices {X} choice [] (inl e) = subst (λ (c : List X). Chosen c []) e tt
from_choices choice [] (inr m) = absurd m
from_choices {X} choice (xs ∷ rest) m =
    let a = from_flat_map (λ (y : X). map (λ c. y ∷ c) (choices rest)) choice xs m in
    let b = from_map (λ c. a.0 ∷ c) choice (choices rest) a.2 in
    subst (λ (c : List X). Chosen c (xs ∷ rest)) b.2 (a.1, from_choices b.0 rest b.1)
