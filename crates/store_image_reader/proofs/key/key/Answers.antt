use Rattle.std.proofs.Common.{sym, ap, ◌∙◌}
use Rattle.relations_spec.specs.Spans.{span}
use Rattle.command_codec_spec.specs.Reading.{Parsed}
use Rattle.store_image_spec.specs.ItemChecks.{is_period}
use Rattle.store_image_spec.specs.Reader.{key, period}
use Rattle.store_image_reader.proofs.ItemSteps.{checked_got, checked_wrong, checked_fails}
use Rattle.store_image_reader.proofs.key.key.Goals as goal

pub returns-in-Ok : goal.returns-in-Ok
unfolding key
returns-in-Ok c =
    checked_got period (is_period c.args.last) (span c.in-Ok.start c.in-Ok.end)
    c.args.reader.now.rest.now c.period.new.reader.rest.now c.in-Ok.ensures
    (sym c.if-is_period.ensures)
    ∙ ap (λ p. Parsed p c.period.new.reader.rest.now)
    (ap (λ s. span s c.in-Ok.end) (sym c.between.ensures.start)
    ∙ ap (λ e. span c.between.result.start e) (sym c.between.ensures.end))

pub returns-in-Ok-2 : goal.returns-in-Ok-2
unfolding key
returns-in-Ok-2 c =
    checked_wrong period (is_period c.args.last) (span c.in-Ok.start c.in-Ok.end)
    c.args.reader.now.rest.now c.period.new.reader.rest.now c.in-Ok.ensures
    (sym c.if-is_period.ensures)

pub returns-in-Err : goal.returns-in-Err
unfolding key
returns-in-Err c = checked_fails period (is_period c.args.last) c.in-Err.stop
    c.args.reader.now.rest.now c.period.new.reader.rest.now c.in-Err.ensures
