use Rattle.std.proofs.Common.{◌≡◌, ◌∙◌, ◌+◌, ◌-◌, ◌<◌, ap, sym, arith}
use Rattle.std.specs.FinMap.{empty}
use Rattle.smo_ops_types.specs.Commands.{versions_of}
use Rattle.smo_ops_versions_spec.specs.Steps.{taken}
use Rattle.smo_ops_versions_spec.specs.Ways.{from_next}
use Rattle.smo_ops_versions_spec.specs.LostNames.{losses_stepped, lost_names}
use Rattle.smo_ops_versions_spec.proofs.WaySteps.{taken_backward}
use Rattle.rewrite_losses.proofs.version_way.lost_names.Goals as goal

pub loop-k-preserved : goal.loop-k-preserved
loop-k-preserved c =
    let at : c.loop-k.k ≡ c.loop-k.k - 1 + 1 = omega (arith, c.loop-k-test.true) in
    let earlier : c.loop-k.k - 1 < c.args.stored =
    omega (arith, c.loop-k.invariant.high, c.loop-k-test.true) in
    record {
      low = omega (arith, c.loop-k-test.true);
      high = omega (arith, c.loop-k.invariant.high);
      so_far =
          c.in_ok-lose_version.ensures
          ∙ ap (taken losses_stepped (from_next (versions_of c.args.versions.now)
          (c.loop-k.k - 1)))
          (c.loop-k.invariant.so_far
          ∙ ap (lost_names (versions_of c.args.versions.now) c.args.stored) at)
          ∙ sym (taken_backward (versions_of c.args.versions.now) losses_stepped c.args.stored
          (c.loop-k.k - 1) empty earlier);
    }
