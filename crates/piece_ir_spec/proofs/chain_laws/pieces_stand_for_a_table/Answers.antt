use Rattle.std.proofs.Common.{refl}
use Rattle.piece_ir_spec.specs.Chains.{to_next, to_previous}
use Rattle.piece_ir_spec.proofs.UnfoldedPieceLaws.{stand_first, stand_next, stand_previous}
use Rattle.piece_ir_spec.proofs.UnfoldedPieceLaws.{stand_typed}
use Rattle.std.specs.Prelude.{[], ◌∷◌}
use Rattle.piece_ir_spec.specs.Beginnings.{first_piece}
use Rattle.piece_ir_spec.proofs.chain_laws.pieces_stand_for_a_table.Goals as goal

pub returns-clause-first : goal.returns-clause-first
returns-clause-first c = λ book versions q table r.
    stand_first book versions q q table r (first_piece table r ∷ []) refl refl

pub returns-clause-next : goal.returns-clause-next
returns-clause-next c = λ book versions v q table r ps l kept h.
    stand_next book versions v q table r ps (to_next book versions v ps) l kept h refl

pub returns-clause-previous : goal.returns-clause-previous
returns-clause-previous c = λ book versions v q table r ps l h.
    stand_previous book versions v q table r ps (to_previous book versions v ps) l h refl

pub returns-clause-typed : goal.returns-clause-typed
returns-clause-typed c = λ book valid versions v q table r ps may h.
    stand_typed book versions v q table r valid ps may h
