use Rattle.std.proofs.Common.{◌≡◌, sym, subst, ap, refl, ◌∙◌}
use Rattle.std.specs.Prelude.{Some, None}
use Rattle.script_cli_arguments.specs.declared.request.Mode.TheVariants.{Run, Sample}
use Rattle.script_cli_arguments.specs.Arguments.{limit_in}
use Rattle.script_cli_sample.specs.Statements.{sample_script}
use Rattle.piece_ir_spec.specs.Books.{book_of}
use Rattle.script_cli.specs.Runs.{RunsOver, given_by}
use Rattle.script_cli.specs.Sampling.{SamplesOver}
use Rattle.script_cli.proofs.Checking.{over_not_words}
use Rattle.script_cli.proofs.SampleRuns.{sample_not_words, sample_source}
use Rattle.script_cli.proofs.program_run.perform.Goals as goal

-- ---- a run

pub returns-in-Run-clause-arguments : goal.returns-in-Run-clause-arguments
returns-in-Run-clause-arguments g c = λ is.
    let M = g.D.Disk.meaning in
    over_not_words (given_by c.args.request.journal_limit
    (book_of g.R.Rule.handles g.R.Rule.answers c.args.book.now.rules.items))
    c.run_borrowed.result _ _ _ _ _ _ (M c.args.disk.now) (M c.run_borrowed.new.disk)
    c.run_borrowed.ensures.runs is

pub returns-in-Run-clause-runs : goal.returns-in-Run-clause-runs
returns-in-Run-clause-runs g c = λ limit for.
    let M = g.D.Disk.meaning in
    let here : Some c.args.request.journal_limit ≡ Some limit =
    sym (ap (λ m. limit_in m c.args.request.journal_limit) c.in-Run.is) ∙ for in
    let same : c.args.request.journal_limit ≡ limit = cc in
    subst (λ n. RunsOver (given_by n (book_of g.R.Rule.handles g.R.Rule.answers
    c.args.book.now.rules.items))
    c.run_borrowed.result (g.S.Source.left c.args.source.now)
    (g.S.Source.left c.run_borrowed.new.source) (g.K.Sink.written c.args.sink.now)
    (g.K.Sink.written c.run_borrowed.new.sink)
    (g.K.Sink.faults c.args.sink.now) (g.K.Sink.faults c.run_borrowed.new.sink) (M c.args.disk.now)
    (M c.run_borrowed.new.disk)) same c.run_borrowed.ensures.runs

pub returns-in-Run-clause-samples : goal.returns-in-Run-clause-samples
returns-in-Run-clause-samples g c = λ size for. let here : Run ≡ Sample size = sym c.in-Run.is
    ∙ for in absurd cc

-- ---- a sample

pub returns-in-Sample-clause-arguments : goal.returns-in-Sample-clause-arguments
returns-in-Sample-clause-arguments g c = λ is.
    let M = g.D.Disk.meaning in
    sample_not_words c.in-Sample.size (given_by c.args.request.journal_limit
    (book_of g.R.Rule.handles g.R.Rule.answers c.args.book.now.rules.items))
    (sample_script c.in-Sample.size) c.sample_borrowed.result _ _ _ _ _ _ (M c.args.disk.now)
    (M c.sample_borrowed.new.disk)
    (c.sample_borrowed.ensures.samples None) is

pub returns-in-Sample-clause-runs : goal.returns-in-Sample-clause-runs
returns-in-Sample-clause-runs g c = λ limit for.
    let here : None ≡ Some limit = sym (ap (λ m. limit_in m c.args.request.journal_limit)
    c.in-Sample.is) ∙ for in absurd cc

pub returns-in-Sample-clause-samples : goal.returns-in-Sample-clause-samples
returns-in-Sample-clause-samples g c = λ size for.
    let M = g.D.Disk.meaning in
    let left = g.S.Source.left c.args.source.now in
    let here : Sample c.in-Sample.size ≡ Sample size = sym c.in-Sample.is ∙ for in
    let same : c.in-Sample.size ≡ size = cc in (
      refl,
      subst (λ n. SamplesOver n (given_by c.args.request.journal_limit
          (book_of g.R.Rule.handles g.R.Rule.answers c.args.book.now.rules.items))
          c.sample_borrowed.result left left (g.K.Sink.written c.args.sink.now)
          (g.K.Sink.written c.sample_borrowed.new.sink)
          (g.K.Sink.faults c.args.sink.now) (g.K.Sink.faults c.sample_borrowed.new.sink)
          (M c.args.disk.now) (M c.sample_borrowed.new.disk)) same
          (c.sample_borrowed.ensures.samples left),
    )

pub returns-in-Sample-clause-source : goal.returns-in-Sample-clause-source
returns-in-Sample-clause-source g c =
    let M = g.D.Disk.meaning in
    sample_source c.in-Sample.size (given_by c.args.request.journal_limit
    (book_of g.R.Rule.handles g.R.Rule.answers c.args.book.now.rules.items))
    (sample_script c.in-Sample.size) c.sample_borrowed.result None None _ _ _ _
    (M c.args.disk.now) (M c.sample_borrowed.new.disk)
    (c.sample_borrowed.ensures.samples None) _
