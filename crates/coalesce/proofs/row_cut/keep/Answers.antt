use Rattle.std.proofs.Common.{◌≡◌, ap, sym, ◌∙◌, List, get_or}
use Rattle.std.specs.Prelude.{Option, Some, None}
use Rattle.std.specs.List.{swap}
use Rattle.relations_spec.specs.Spans.{Span, common}
use Rattle.prima_base.specs.declared.timed_row.TimedRow.{TimedRow}
use Rattle.prima_base_rows.specs.Rows.{in_period}
use Rattle.prima_base_rows.proofs.Moves.{no_row}
use Rattle.coalesce.specs.Cutting.{cut_row, with_period}
use Rattle.coalesce.proofs.Kept.{kept_one, dropped_one}
use Rattle.coalesce.proofs.row_cut.keep.Goals as goal
use Rattle.coalesce.proofs.row_cut.keep.Goals.{After-meet}

cut_is : (c : After-meet) → (o : Option Span) → c.meet.result ≡ o
    → cut_row c.args.slice (get_or c.args.rows.now.items c.args.next no_row)
    ≡ with_period (get_or c.args.rows.now.items c.args.next no_row) o
cut_is c o is = ap (with_period (get_or c.args.rows.now.items c.args.next no_row))
    (ap (λ (p : Span). common p c.args.slice) (sym (c.period.ensures.period no_row))
    ∙ sym c.meet.ensures.common ∙ is)

pub returns-in-Some-clause-stands : goal.returns-in-Some-clause-stands
returns-in-Some-clause-stands c =
    let k = (goal.at.returns-in-Some-clause-stands c).After-meet in
    kept_one (cut_row c.args.slice) c.args.rows.now.items c.exchange.new.rows.items c.args.kept
    c.args.next no_row
    (in_period (get_or c.args.rows.now.items c.args.next no_row) c.in-Some.period)
    c.requires.apart c.requires.within (cut_is k (Some c.in-Some.period) c.in-Some.is)
    (c.exchange.ensures ∙ ap (λ (l : List TimedRow). swap l c.args.kept c.args.next)
    (c.set_period.ensures.rows no_row))

pub returns-in-None-clause-stands : goal.returns-in-None-clause-stands
returns-in-None-clause-stands c =
    let k = (goal.at.returns-in-None-clause-stands c).After-meet in
    dropped_one (cut_row c.args.slice) c.args.rows.now.items c.args.kept c.args.next no_row
    c.requires.within (cut_is k None c.in-None.is)
