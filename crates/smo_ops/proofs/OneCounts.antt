-- The counts of an operator and of an inverse whose operators are lists of one are those of the
-- members.
use Rattle.std.proofs.Common.{◌≡◌, ℕ, zero, suc, List, [], ◌∷◌, ◌++◌, map, take, length, refl}
use Rattle.std.proofs.Common.{ap, ◌∙◌}
use Rattle.std.specs.List.{flat_map}
use Rattle.std.proofs.lemmas.List.{length-map}
use Rattle.prima_base.specs.declared.refusal.What.TheVariants.{Inverse}
use Rattle.smo_ops_types.specs.Operators.{Operator}
use Rattle.smo_ops_types.specs.Commands.{evolving}
use Rattle.smo_ops_spec.specs.First.{first_refusal}
use Rattle.smo_ops_spec.specs.Counts.{Excess, at_most, operator_counts, evolution_counts}
use Rattle.smo_ops_spec.specs.Counts.{first_excess}
use Rattle.smo_ops_spec.proofs.OneMembers.{counts_of_one}

counts_of_ones : (n : ℕ) (ops : List Operator)
    → flat_map evolution_counts (take n (map (λ o. o ∷ []) ops))
    ≡ flat_map operator_counts (take n ops)
counts_of_ones zero [] = refl
counts_of_ones zero (op ∷ ops) = refl
counts_of_ones (suc n) [] = refl
counts_of_ones (suc n) (op ∷ ops) =
    ap (λ (counts : List Excess). counts
    ++ flat_map evolution_counts (take n (map (λ o. o ∷ []) ops))) (counts_of_one op)
    ∙ ap (λ (counts : List Excess). operator_counts op ++ counts) (counts_of_ones n ops)

pub counts_as_operators : (op : Operator) (inverse : List Operator)
    → first_excess (evolving (op ∷ []) (map (λ o. o ∷ []) inverse))
    ≡ first_refusal (operator_counts op ++ (flat_map operator_counts (take 8 inverse)
    ++ at_most Inverse 8 (length inverse) ∷ []))
counts_as_operators op inverse =
    ap (λ (counts : List Excess). first_refusal (counts
    ++ (flat_map evolution_counts (take 8 (map (λ o. o ∷ []) inverse))
    ++ at_most Inverse 8 (length (map (λ o. o ∷ []) inverse)) ∷ []))) (counts_of_one op)
    ∙ ap (λ (counts : List Excess). first_refusal (operator_counts op ++ (counts
    ++ at_most Inverse 8 (length (map (λ o. o ∷ []) inverse)) ∷ []))) (counts_of_ones 8 inverse)
    ∙ ap (λ (n : ℕ). first_refusal (operator_counts op ++ (flat_map operator_counts (take 8 inverse)
    ++ at_most Inverse 8 n ∷ []))) (length-map inverse (λ (o : Operator). o ∷ []))
