use Rattle.std.proofs.Common.{map}
use Rattle.cond_expr.specs.Seen.{tree}
use Rattle.join_exec_spec.specs.BorrowedOutputs.{StaysBorrowed}
use Rattle.join_exec_spec.proofs.BorrowedLaws.{each_more}
use Rattle.join_exec_spec.proofs.Tests.{are_valid}
use Rattle.join_exec_levels.proofs.answer.put_choice_answer.Goals as goal

pub values_meet-requires : goal.values_meet-requires
values_meet-requires c = are_valid c.args.values.now c.requires

pub output_row-requires : goal.output_row-requires
output_row-requires c = are_valid c.args.values.now c.requires

pub returns-clause-borrowed : goal.returns-clause-borrowed
returns-clause-borrowed c = λ which h k.
    each_more (StaysBorrowed which (map tree c.args.outs.now)) c.args.rows.now.items
    c.push_from.new.self.items _ c.in_ok-push_from.ensures.rows h
    (c.in_ok-output_row.ensures.borrowed which k)
