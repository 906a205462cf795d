use Rattle.answer_text.proofs.Gathered.{on_err, less_longer}
use Rattle.answer_text.proofs.aggregate.push_sum.Goals as goal

pub returns-in_err-make_room-clause-part : goal.returns-in_err-make_room-clause-part
returns-in_err-make_room-clause-part g c = on_err _ _
    (less_longer _ _ _ _ c.in_err-make_room.ensures.part)
