use Rattle.join_exec_spec.specs.BorrowedOutputs.{StaysBorrowed}
use Rattle.join_exec_levels.proofs.CoalescedRows.{each_by_values, same_stay}
use Rattle.join_exec_levels.proofs.answer.settled_count.Goals as goal

pub returns-clause-borrowed : goal.returns-clause-borrowed
returns-clause-borrowed c = λ which outs l.
    same_stay which outs c.coalesce_in_place.new.rows.items c.pack.new.self.items
    c.pack.ensures.rows c.pack.ensures.borrowed
    (each_by_values (StaysBorrowed which outs) c.args.rows.now.items
    c.coalesce_in_place.new.rows.items c.coalesce_in_place.ensures.values l)
