use Rattle.std.proofs.Common.{◌≡◌, rules, sym, subst}
use Rattle.disk_model.specs.Moments.{GoesOn}
use Rattle.disk_model.specs.BorrowLaws.{borrowed_goes}
use Rattle.script_cli_sample.specs.Statements.{sample_script}
use Rattle.piece_ir_spec.specs.Books.{book_of}
use Rattle.script_cli.specs.Runs.{given_by}
use Rattle.script_cli.specs.Sampling.{SamplesOver}
use Rattle.script_cli.proofs.SampleRuns.{borrowed_sample}
use Rattle.script_cli.proofs.program_run.sample_borrowed.Goals as goal

-- what comes back is the reference that was borrowed, so the disk is as it then stands
pub returns-clause-goes : goal.returns-clause-goes
returns-clause-goes g c =
    let M = g.D.Disk.meaning in
    let back : c.disk-1.given.0 ≡ c.sample_over-ended.result.1.now = search rules in
    subst (λ d. GoesOn (M c.args.disk.now) (M d)) (sym back)
    (borrowed_goes _ _ (M c.args.disk.now) (M c.sample_over-ended.result.1.now)
    c.sample_over-ended.ensures.goes)

pub returns-clause-samples : goal.returns-clause-samples
returns-clause-samples g c = λ left.
    let M = g.D.Disk.meaning in
    let back : c.disk-1.given.0 ≡ c.sample_over-ended.result.1.now = search rules in
    subst (λ d. SamplesOver c.args.size (given_by c.args.limit
    (book_of g.R.Rule.handles g.R.Rule.answers c.args.book.now.rules.items))
    c.sample_over-ended.result.0 left left (g.K.Sink.written c.args.sink.now)
    (g.K.Sink.written c.sample_over-ended.new.sink)
    (g.K.Sink.faults c.args.sink.now) (g.K.Sink.faults c.sample_over-ended.new.sink)
    (M c.args.disk.now) (M d)) (sym back)
    (borrowed_sample _ _ (M c.args.disk.now) (M c.sample_over-ended.result.1.now) c.args.size
    (given_by c.args.limit (book_of g.R.Rule.handles g.R.Rule.answers c.args.book.now.rules.items))
    (sample_script c.args.size) c.sample_over-ended.result.0 left left _ _ _ _
    (c.sample_over-ended.ensures.samples left))
