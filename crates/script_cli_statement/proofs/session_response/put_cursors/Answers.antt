use Rattle.std.proofs.Common.{◌≤◌, ◌∙◌, length, arith}
use Rattle.prima_io.proofs.Prefixes.{on_err}
use Rattle.sessions.specs.Meaning.{sessions_of}
use Rattle.script_cli_statement.proofs.Lines.{line_put, line_failed, end_put, end_failed}
use Rattle.script_cli_statement.proofs.CursorLines.{whole, next_lines, next_text, last_text}
use Rattle.script_cli_statement.proofs.CursorLines.{here, none_here}
use Rattle.script_cli_statement.proofs.session_response.put_cursors.Goals as goal
use Rattle.script_cli_statement.proofs.session_response.put_cursors.Goals.{in-Some+in_ok-put_cursor}
use Rattle.script_cli_statement.proofs.session_response.put_cursors.Goals.{in_default}

pub returns-in_err-put_cursor-clause-part : goal.returns-in_err-put_cursor-clause-part
returns-in_err-put_cursor-clause-part g c =
    let cursors = (sessions_of c.args.sessions.now).cursors in
    let i = c.loop-i.invariant in
    let at = here cursors c.loop-i.i c.cursor.result c.in-Some.line c.in-Some.is c.cursor.ensures in
    on_err _ _ (line_failed _ _ _ i.0 _ (whole cursors) i.2 _
    (next_text cursors c.loop-i.i _ i.0 at.0 at.1 i.3) c.in_err-put_cursor.ensures.part)

pub loop-i-preserved : goal.loop-i-preserved
loop-i-preserved g c =
    let cursors = (sessions_of c.args.sessions.now).cursors in
    let i = c.loop-i.invariant in
    elim c.match-cursor.branch [
      | in-Some+in_ok-put_cursor w ↦ rw (w.sink-is) (
          let at = here cursors c.loop-i.i c.cursor.result w.in-Some.line w.in-Some.is
          c.cursor.ensures in (
            _,
            w.in_ok-put_cursor.ensures.cause.kept ∙ i.1,
            line_put _ _ _ i.0 _ (whole cursors) i.2 w.in_ok-put_cursor.ensures.all,
            next_lines cursors c.loop-i.i _ i.0 at.0 at.1 i.3,
          ))
      | in_default w ↦ absurd (let end = none_here cursors c.loop-i.i c.cursor.result
          w.in_default.is
          c.cursor.ensures in omega (arith, end, c.cursors-count.ensures, c.loop-i-test.true))
    ]

pub returns-in_err-put_count-clause-part : goal.returns-in_err-put_count-clause-part
returns-in_err-put_count-clause-part g c =
    let cursors = (sessions_of c.args.sessions.now).cursors in
    let i = c.loop-i.invariant in
    let end : length cursors ≤ c.loop-i.i =
    omega (arith, c.cursors-count.ensures, c.loop-i-test.false) in
    on_err _ _ (end_failed _ _ _ i.0 _ (whole cursors) i.2
    (last_text cursors c.loop-i.i _ i.0 end c.cursors-count.ensures i.3)
    c.in_err-put_count.ensures.part)

pub returns-clause-all : goal.returns-clause-all
returns-clause-all g c =
    let cursors = (sessions_of c.args.sessions.now).cursors in
    let i = c.loop-i.invariant in
    let end : length cursors ≤ c.loop-i.i =
    omega (arith, c.cursors-count.ensures, c.loop-i-test.false) in
    end_put _ _ _ i.0 _ (whole cursors) i.2
    (last_text cursors c.loop-i.i _ i.0 end c.cursors-count.ensures i.3)
    c.in_ok-put_count.ensures.all
