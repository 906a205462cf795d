use Rattle.relations_spec.proofs.SetLaws.{set_same}
use Rattle.prima_base.specs.Order.{row_cmp}
use Rattle.prima_base.specs.OrderLaws.{row_exact}
use Rattle.plain_answers_spec.specs.Choosing.{answers_over}
use Rattle.plain_answers_spec.specs.Reading.{read_columns, read_rows}
use Rattle.plain_answers_spec.proofs.ReadLaws.{same_answers, same_plain, is_needed}
use Rattle.plain_answers_spec.proofs.PushedParts.{is_pushed}
use Rattle.plain_answers_spec.proofs.laws.what_is_named_and_selected_is_enough.Goals as goal

pub returns-clause-answers : goal.returns-clause-answers
returns-clause-answers c = λ columns relations outs test reads a b e.
    set_same row_cmp row_exact (answers_over (read_columns reads columns)
    (read_rows reads columns relations) outs test) (answers_over columns relations outs test)
    (same_answers outs test reads columns relations a b e)

pub returns-clause-branches : goal.returns-clause-branches
returns-clause-branches c = λ tables db branches reads h. same_plain tables db branches reads h

pub returns-clause-needed_reads : goal.returns-clause-needed_reads
returns-clause-needed_reads c = is_needed

pub returns-clause-pushed_cond : goal.returns-clause-pushed_cond
returns-clause-pushed_cond c = is_pushed
