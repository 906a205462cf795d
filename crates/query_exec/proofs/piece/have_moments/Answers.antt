use Rattle.std.proofs.Common.{◌<◌, sym, get_or, subst, arith}
use Rattle.std.proofs.lemmas.List.{take_all}
use Rattle.relations_spec.specs.Sets.{In}
use Rattle.relations_spec.specs.Spans.{Span}
use Rattle.prima_base.specs.declared.timed_row.TimedRow.{TimedRow}
use Rattle.prima_base_rows.proofs.Moves.{no_row}
use Rattle.prima_base_rows.proofs.ReadRows.{stands_there}
use Rattle.query_exec.proofs.ListSteps.{next_said}
use Rattle.query_exec.proofs.piece.have_moments.Goals as goal

pub loop-i-init : goal.loop-i-init
loop-i-init c = λ row m. absurd m

pub loop-i-preserved : goal.loop-i-preserved
loop-i-preserved c =
    let rows = c.args.rows.now.items in
    let i = c.loop-i.i in
    next_said (λ (row : TimedRow). row.period.start < row.period.end) rows i
    (get_or rows i no_row) (omega arith) (stands_there rows i) c.loop-i.invariant
    (subst (λ (p : Span). p.start < p.end) (c.period.ensures.period no_row)
    c.has_moments.ensures)

pub returns : goal.returns
returns c = λ row m. c.loop-i.invariant row
    (subst (In row) (sym (take_all c.loop-i.i c.args.rows.now.items (omega arith))) m)
