use Rattle.std.proofs.Common.{◌∙◌, arith}
use Rattle.prima_io.proofs.Prefixes.{on_err}
use Rattle.script_cli_statement.proofs.Lines.{line_put, line_failed, end_put, end_failed}
use Rattle.script_cli_statement.proofs.EntryLines.{whole, next_lines, next_text, last_text}
use Rattle.script_cli_statement.proofs.session_response.put_entries.Goals as goal

pub returns-in_err-put_kept-clause-part : goal.returns-in_err-put_kept-clause-part
returns-in_err-put_kept-clause-part g c =
    let i = c.loop-row.invariant in
    on_err _ _ (line_failed _ _ _ i.0 _ (whole c.args.periods c.args.rows.now) i.2 _
    (next_text c.args.periods c.args.rows.now _ _ i.0 c.loop-row-test.true c.row-item.is i.3)
    c.in_err-put_kept.ensures.part)

pub loop-row-preserved : goal.loop-row-preserved
loop-row-preserved g c =
    let i = c.loop-row.invariant in (
      _,
      c.in_ok-put_kept.ensures.cause.kept ∙ i.1,
      line_put _ _ _ i.0 _ (whole c.args.periods c.args.rows.now) i.2
          c.in_ok-put_kept.ensures.all,
      next_lines c.args.periods c.args.rows.now _ _ i.0 c.loop-row-test.true c.row-item.is i.3,
    )

pub returns-in_err-put_count-clause-part : goal.returns-in_err-put_count-clause-part
returns-in_err-put_count-clause-part g c =
    let i = c.loop-row.invariant in
    on_err _ _ (end_failed _ _ _ i.0 _ (whole c.args.periods c.args.rows.now) i.2
    (last_text c.args.periods c.args.rows.now _ _ i.0 (omega arith) (omega arith) i.3)
    c.in_err-put_count.ensures.part)

pub returns-clause-all : goal.returns-clause-all
returns-clause-all g c =
    let i = c.loop-row.invariant in
    end_put _ _ _ i.0 _ (whole c.args.periods c.args.rows.now) i.2
    (last_text c.args.periods c.args.rows.now _ _ i.0 (omega arith) (omega arith) i.3)
    c.in_ok-put_count.ensures.all
