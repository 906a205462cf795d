use Rattle.std.proofs.Common.{sym, subst}
use Rattle.answer_text.specs.Texts.{not_a_journal_text}
use Rattle.script_cli.specs.Driving.{PutsUnopened}
use Rattle.script_cli.proofs.Checking.{line_put}
use Rattle.script_cli.proofs.disk_run.refuse_file.Goals as goal

pub returns-in-Damaged-clause-told : goal.returns-in-Damaged-clause-told
returns-in-Damaged-clause-told g c =
    let put = c.put_not_a_journal-put in
    subst (λ f. PutsUnopened f (g.K.Sink.written c.args.sink.now) (g.K.Sink.written put.new.sink)
    (g.K.Sink.faults c.args.sink.now) (g.K.Sink.faults put.new.sink)) (sym c.in-Damaged.is)
    (line_put put.result (not_a_journal_text c.in-Damaged.place) _ _ _ _ put.ensures.all
    put.ensures.part put.ensures.cause)

pub returns-in-Damaged-clause-sink : goal.returns-in-Damaged-clause-sink
returns-in-Damaged-clause-sink g c = c.put_not_a_journal-put.ensures.cause.later
