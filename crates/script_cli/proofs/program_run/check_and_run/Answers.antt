use Rattle.std.proofs.Common.{inl, inr, sym, subst, ap, refl, ◌∙◌}
use Rattle.std.specs.Prelude.{map, string_bytes, option_and_then}
use Rattle.disk_model.specs.MomentLaws.{goes_refl}
use Rattle.script_cli_arguments.specs.Arguments.{asked, limit_of_run, request}
use Rattle.script_cli_arguments.specs.declared.request.Mode.TheVariants.{Sample}
use Rattle.piece_ir_spec.specs.Books.{book_of}
use Rattle.script_cli.specs.Runs.{given_by, SourceCounted, SinkCounted, DiskCounted}
use Rattle.script_cli.specs.Sampling.{SamplesOver}
use Rattle.script_cli.proofs.Checking.{none_or_some, not_for_none, same_request, refused_words}
use Rattle.script_cli.proofs.Checking.{refused_memory, untouched_memory}
use Rattle.script_cli.proofs.program_run.check_and_run.Goals as goal

-- ---- a run or a sample is asked for

pub returns-in-Some-clause-arguments : goal.returns-in-Some-clause-arguments
returns-in-Some-clause-arguments g c = λ is. absurd (c.perform.ensures.arguments is)

pub returns-in-Some-clause-refused : goal.returns-in-Some-clause-refused
returns-in-Some-clause-refused g c = λ none.
    none_or_some (asked (map string_bytes c.args.arguments.now)) c.in-Some.request _
    (sym c.in-Ok.ensures.asked ∙ c.in-Some.is) none

pub returns-in-Some-clause-runs : goal.returns-in-Some-clause-runs
returns-in-Some-clause-runs g c = λ limit for.
    inr (c.perform.ensures.runs limit (ap (option_and_then limit_of_run)
    (sym (sym c.in-Ok.ensures.asked ∙ c.in-Some.is)) ∙ for))

pub returns-in-Some-clause-quiet : goal.returns-in-Some-clause-quiet
returns-in-Some-clause-quiet g c = λ limit size for.
    let same = same_request (asked (map string_bytes c.args.arguments.now)) c.in-Some.request limit
    size
    (sym c.in-Ok.ensures.asked ∙ c.in-Some.is) for in
    (c.perform.ensures.samples size same.1).0

pub returns-in-Some-clause-samples : goal.returns-in-Some-clause-samples
returns-in-Some-clause-samples g c = λ limit size for.
    let M = g.D.Disk.meaning in
    let same = same_request (asked (map string_bytes c.args.arguments.now)) c.in-Some.request limit
    size
    (sym c.in-Ok.ensures.asked ∙ c.in-Some.is) for in
    inr (subst (λ n. SamplesOver size (given_by n
    (book_of g.R.Rule.handles g.R.Rule.answers c.args.book.now.rules.items))
    c.perform.result (g.S.Source.left c.args.source.now) (g.S.Source.left c.perform.new.source)
    (g.K.Sink.written c.args.sink.now) (g.K.Sink.written c.perform.new.sink)
    (g.K.Sink.faults c.args.sink.now) (g.K.Sink.faults c.perform.new.sink) (M c.args.disk.now)
    (M c.perform.new.disk)) same.0 (c.perform.ensures.samples size same.1).1)

-- ---- wrong words

pub returns-in-None-clause-arguments : goal.returns-in-None-clause-arguments
returns-in-None-clause-arguments g c = λ is. sym c.in-Ok.ensures.asked ∙ c.in-None.is

pub returns-in-None-clause-refused : goal.returns-in-None-clause-refused
returns-in-None-clause-refused g c = λ none.
    refused_words c.refuse_words.result c.refuse_words.ensures.status _ _ _ _ _
    c.refuse_words.ensures.wrote c.args.disk.now

pub returns-in-None-clause-runs : goal.returns-in-None-clause-runs
returns-in-None-clause-runs g c = λ limit for.
    absurd (not_for_none (asked (map string_bytes c.args.arguments.now)) limit
    (sym c.in-Ok.ensures.asked ∙ c.in-None.is) for)

pub returns-in-None-clause-quiet : goal.returns-in-None-clause-quiet
returns-in-None-clause-quiet g c = λ limit size for. refl

pub returns-in-None-clause-samples : goal.returns-in-None-clause-samples
returns-in-None-clause-samples g c = λ limit size for.
    none_or_some (asked (map string_bytes c.args.arguments.now)) (request limit (Sample size)) _ for
    (sym c.in-Ok.ensures.asked ∙ c.in-None.is)

pub returns-in-None-clause-goes : goal.returns-in-None-clause-goes
returns-in-None-clause-goes g c = goes_refl (g.D.Disk.meaning c.args.disk.now)
    (g.met.D.Disk.valid c.args.disk.now)

pub returns-in-None-clause-source : goal.returns-in-None-clause-source
returns-in-None-clause-source g c = subst (λ s.
    SourceCounted s (g.S.Source.faults c.args.source.now) (g.S.Source.faults c.args.source.now))
    (sym c.refuse_words.ensures.status) refl

pub returns-in-None-clause-sink : goal.returns-in-None-clause-sink
returns-in-None-clause-sink g c = subst (λ s.
    SinkCounted s (g.K.Sink.faults c.args.sink.now) (g.K.Sink.faults c.refuse_words.new.sink))
    (sym c.refuse_words.ensures.status) c.refuse_words.ensures.later

pub returns-in-None-clause-disk : goal.returns-in-None-clause-disk
returns-in-None-clause-disk g c =
    let M = g.D.Disk.meaning in
    subst (λ s. DiskCounted s (M c.args.disk.now).faults (M c.args.disk.now).faults)
    (sym c.refuse_words.ensures.status) refl

-- ---- memory ran out

pub returns-in-Err-clause-refused : goal.returns-in-Err-clause-refused
returns-in-Err-clause-refused g c = λ none. refused_memory _ _ _ c.args.disk.now

pub returns-in-Err-clause-runs : goal.returns-in-Err-clause-runs
returns-in-Err-clause-runs g c = λ limit for.
    inl (untouched_memory _ _ (g.K.Sink.faults c.args.sink.now) c.args.disk.now)

pub returns-in-Err-clause-quiet : goal.returns-in-Err-clause-quiet
returns-in-Err-clause-quiet g c = λ limit size for. refl

pub returns-in-Err-clause-samples : goal.returns-in-Err-clause-samples
returns-in-Err-clause-samples g c = λ limit size for.
    inl (untouched_memory _ _ (g.K.Sink.faults c.args.sink.now) c.args.disk.now)

pub returns-in-Err-clause-goes : goal.returns-in-Err-clause-goes
returns-in-Err-clause-goes g c = goes_refl (g.D.Disk.meaning c.args.disk.now)
    (g.met.D.Disk.valid c.args.disk.now)
