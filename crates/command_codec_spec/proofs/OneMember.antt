-- Operators of one member: they are spelled as their members, and have a spelling where these have.
use Rattle.std.proofs.Common.{◌≡◌, ℕ, suc, List, [], ◌∷◌, ◌++◌, map, length, refl, ap, ◌∙◌}
use Rattle.std.specs.List.{flat_map, AllByRecursion}
use Rattle.smo_ops_types.specs.declared.op.Op.{Op}
use Rattle.smo_ops_types.specs.Operators.{Operator, evolution_of, evolutions_of}
use Rattle.smo_ops_types.specs.Commands.{evolving}
use Rattle.command_codec_spec.specs.Encoding.{number, list_bytes, operator_bytes, evolution_bytes}
use Rattle.command_codec_spec.specs.Valid.{HasOneMember, HaveOneMember, IsWritableOperator}
use Rattle.command_codec_spec.specs.Valid.{IsWritableEvolution, OperatorNamed, EvolutionNamed}
use Rattle.command_codec_spec.specs.Valid.{IsOperator}

abbrev pub ones : List Operator → List (List Operator)
ones ops = map (λ o. o ∷ []) ops

pub same_length : (ops : List Operator) → length (ones ops) ≡ length ops
same_length [] = refl
same_length (op ∷ ops) = ap suc (same_length ops)

spelled_as_members : (ops : List Operator)
    → flat_map evolution_bytes (ones ops) ≡ flat_map operator_bytes ops
spelled_as_members [] = refl
spelled_as_members (op ∷ ops) = ap (λ (bytes : List ℕ). operator_bytes op ++ bytes)
    (spelled_as_members ops)

pub listed_as_members : (ops : List Operator)
    → list_bytes 4 evolution_bytes (ones ops) ≡ list_bytes 4 operator_bytes ops
listed_as_members ops =
    ap (λ n. number 4 n ++ flat_map evolution_bytes (ones ops)) (same_length ops)
    ∙ ap (λ (bytes : List ℕ). number 4 (length ops) ++ bytes) (spelled_as_members ops)

pub writable_ones : (ops : List Operator) → AllByRecursion IsWritableOperator ops
    → AllByRecursion IsWritableEvolution (ones ops)
writable_ones [] h = tt
writable_ones (op ∷ ops) h = (h.0, writable_ones ops h.1)

pub named_ones : (ops : List Operator) → AllByRecursion OperatorNamed ops
    → AllByRecursion EvolutionNamed (ones ops)
named_ones [] h = tt
named_ones (op ∷ ops) h = ((h.0, tt), named_ones ops h.1)

-- what can be written has one member each
pub all_ones : (evolutions : List (List Operator)) → AllByRecursion IsWritableEvolution evolutions
    → AllByRecursion EvolutionNamed evolutions
    → (ops : List Operator) × AllByRecursion IsOperator ops × (ones ops ≡ evolutions)
all_ones [] w n = ([], tt, refl)
all_ones ([] ∷ evolutions) w n = absurd w.0
all_ones ((op ∷ []) ∷ evolutions) w n =
    let r = all_ones evolutions w.1 n.1 in (
      op ∷ r.0,
      ((w.0, n.0.0), r.1),
      ap (λ (l : List (List Operator)). (op ∷ []) ∷ l) r.2,
    )
all_ones ((op ∷ p ∷ ops) ∷ evolutions) w n = absurd w.0

-- each operator of the code is one member

each_is_one : (ops : List Op) → AllByRecursion HasOneMember (evolutions_of ops)
each_is_one [] = tt
each_is_one (op ∷ ops) = (tt, each_is_one ops)

pub ones_of_code : (op : Op) (inverse : List Op)
    → HaveOneMember (evolving (evolution_of op) (evolutions_of inverse))
ones_of_code op inverse = (tt, each_is_one inverse)
