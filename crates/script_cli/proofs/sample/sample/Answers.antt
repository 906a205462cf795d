use Rattle.std.proofs.Common.{◌≡◌, ◌+◌, rules, inl, sym, subst, refl}
use Rattle.std.specs.Prelude.{Some, true}
use Rattle.script_cli_statement.specs.ArchiveOnDisk.{below, place_of}
use Rattle.script_cli_sample.specs.Source.{left_of}
use Rattle.script_cli_sample.specs.Statements.{sample_script}
use Rattle.script_cli_sample.specs.Summary.{summary}
use Rattle.script_cli.specs.Kept.{kept_by}
use Rattle.script_cli.specs.Runs.{is_whole}
use Rattle.script_cli.specs.Sampling.{ToldBy}
use Rattle.script_cli.proofs.SampleDriven.{told_by_reason, sample_stops, sample_tells}
use Rattle.script_cli.proofs.sample.sample.Goals as goal

pub returns-then-not-is_whole-clause-ran_script : goal.returns-then-not-is_whole-clause-ran_script
returns-then-not-is_whole-clause-ran_script g c = λ limit same start represents unbegun.
    let a = c.args.archive.now in
    let d = c.drive-driven in
    let u = g.K.Sink.written c.args.sink.now in
    sample_stops c.args.size limit (sample_script c.args.size) start c.args.commands
    c.stop_of.result u u d.result.status (left_of c.new-source.result)
    (Some (left_of d.new.source)) (kept_by c.new-kept.result) (kept_by d.new.sink)
    (below a) (below d.new.archive) (place_of a) c.new-source.ensures.left c.new-kept.ensures.kept
    (d.ensures.ran_script limit same start represents unbegun) c.stop_of.ensures refl

pub returns-in-Ok-clause-ran_script : goal.returns-in-Ok-clause-ran_script
returns-in-Ok-clause-ran_script g c = λ limit same start represents unbegun.
    let a = c.args.archive.now in
    let d = c.drive-driven in
    let u = g.K.Sink.written c.args.sink.now in
    let w = g.K.Sink.written c.tell.new.sink in
    let whole : is_whole d.result.status ≡ true = search rules in
    sample_tells c.args.size limit (sample_script c.args.size) start c.args.commands d.result.status
    u w d.result.status (left_of c.new-source.result) (Some (left_of d.new.source))
    (kept_by c.new-kept.result) (kept_by d.new.sink)
    (below a) (below d.new.archive) (place_of a) c.new-source.ensures.left c.new-kept.ensures.kept
    (d.ensures.ran_script limit same start represents unbegun)
    d.result.puts c.bytes.result.now whole (d.ensures.counted limit same start represents unbegun)
    c.bytes.ensures (inl (refl, c.in-Ok.ensures.told))

pub returns-clause-ran_script : goal.returns-clause-ran_script
returns-clause-ran_script g c = λ limit same start represents unbegun.
    let a = c.args.archive.now in
    let d = c.drive-driven in
    let u = g.K.Sink.written c.args.sink.now in
    let w = g.K.Sink.written c.tell.new.sink in
    let whole : is_whole d.result.status ≡ true = search rules in
    let text = summary c.args.size (c.args.commands + d.result.puts) c.bytes.result.now in
    sample_tells c.args.size limit (sample_script c.args.size) start c.args.commands
    c.status_of.result u w d.result.status (left_of c.new-source.result)
    (Some (left_of d.new.source)) (kept_by c.new-kept.result) (kept_by d.new.sink)
    (below a) (below d.new.archive) (place_of a) c.new-source.ensures.left c.new-kept.ensures.kept
    (d.ensures.ran_script limit same start represents unbegun)
    d.result.puts c.bytes.result.now whole (d.ensures.counted limit same start represents unbegun)
    c.bytes.ensures
    (subst (λ s. ToldBy d.result.status s text u w) (sym c.status_of.ensures)
    (told_by_reason d.result.status c.in-Err.reason text u w c.in-Err.ensures.told))
