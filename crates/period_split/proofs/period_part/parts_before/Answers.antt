use Rattle.std.proofs.Common.{map, sym, ap, ◌∙◌, ◌++◌}
use Rattle.relations_spec.specs.Spans.{span, common}
use Rattle.smo_ops_types.specs.Commands.{version_of}
use Rattle.period_split.specs.Splitting.{Part, as_part}
use Rattle.std.specs.Prelude.{List}
use Rattle.period_split.proofs.PartLaws.{begins_next, one_more}
use Rattle.period_split.proofs.period_part.parts_before.Goals as goal

pub loop-number-preserved : goal.loop-number-preserved
loop-number-preserved c = record {
  begin = sym (begins_next c.args.versions.now c.loop-number.number c.index-versions-number.result
      c.loop-number-test.true c.index-versions-number.is);
  parts = c.in_ok-put_part.ensures
      ∙ ap (λ (ps : List Part). ps ++ as_part c.loop-number.number
      (common (span c.loop-number.begin c.index-versions-number.result.stamp) c.args.slice))
      c.loop-number.invariant.parts
      ∙ one_more (map version_of c.args.versions.now) c.args.slice c.loop-number.number
      c.loop-number.begin c.index-versions-number.result.stamp c.loop-number.invariant.begin
      (sym (begins_next c.args.versions.now c.loop-number.number c.index-versions-number.result
      c.loop-number-test.true c.index-versions-number.is));
}
