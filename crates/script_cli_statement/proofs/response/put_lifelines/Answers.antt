use Rattle.std.proofs.Common.{◌≡◌, ◌∙◌, length, arith}
use Rattle.prima_io.proofs.Prefixes.{on_err}
use Rattle.script_cli_statement.proofs.Lifelines.{no_size, borrowed, none_borrowed, line_put}
use Rattle.script_cli_statement.proofs.Lifelines.{line_failed, count_put, count_failed}
use Rattle.script_cli_statement.proofs.response.put_lifelines.Goals as goal
use Rattle.script_cli_statement.proofs.response.put_lifelines.Goals.{in-Some+in_ok-put_size}
use Rattle.script_cli_statement.proofs.response.put_lifelines.Goals.{in_default}

pub returns-in_err-put_size-clause-part : goal.returns-in_err-put_size-clause-part
returns-in_err-put_size-clause-part g c = λ past represents counted.
    let line = borrowed _ _ _ c.size.result c.in-Some.line c.in-Some.is
    (c.size.ensures past represents) in
    on_err _ _ (line_failed (length past.versions) past.sizes _ _ _ c.loop-i.i no_size
    c.in-Some.line line.0 (line.1 no_size) (c.loop-i.invariant.1 past represents counted)
    c.in_err-put_size.ensures.part)

pub loop-i-preserved : goal.loop-i-preserved
loop-i-preserved g c =
    let i = c.loop-i.invariant in
    elim c.match-size.branch [
      | in-Some+in_ok-put_size w ↦ rw (w.sink-is) (
        w.in_ok-put_size.ensures.cause.kept ∙ i.0,
        λ past represents counted.
            let line = borrowed _ _ _ c.size.result w.in-Some.line w.in-Some.is
            (c.size.ensures past represents) in
            line_put (length past.versions) past.sizes _ _ _ c.loop-i.i no_size w.in-Some.line
            line.0 (line.1 no_size) (i.1 past represents counted) w.in_ok-put_size.ensures.all,
      )
      | in_default w ↦ rw (w.sink-is) (
        i.0,
        λ past represents counted.
            let end = none_borrowed _ _ _ c.size.result w.in_default.is
            (c.size.ensures past represents) in
            absurd (omega (arith, end, counted, c.loop-i-test.true)),
      )
    ]

pub returns-in_err-put_count-clause-part : goal.returns-in_err-put_count-clause-part
returns-in_err-put_count-clause-part g c = λ past represents counted.
    let end : c.loop-i.i ≡ length past.sizes =
    omega (arith, counted, c.loop-i-test.false, c.loop-i.auto.i-end) in
    on_err _ _ (count_failed (length past.versions) past.sizes _ _ _ c.loop-i.i c.from.result end
    (c.from.ensures ∙ counted) (c.loop-i.invariant.1 past represents counted)
    c.in_err-put_count.ensures.part)

pub returns-clause-all : goal.returns-clause-all
returns-clause-all g c = λ past represents counted.
    let end : c.loop-i.i ≡ length past.sizes =
    omega (arith, counted, c.loop-i-test.false, c.loop-i.auto.i-end) in
    count_put (length past.versions) past.sizes _ _ _ c.loop-i.i c.from.result end
    (c.from.ensures ∙ counted) (c.loop-i.invariant.1 past represents counted)
    c.in_ok-put_count.ensures.all
