use Rattle.std.proofs.Common.{◌≡◌, ◌+◌, ◌-◌, ◌<◌, length, arith, sym, ap, ◌∙◌}
use Rattle.std.proofs.lemmas.Bool.Decides.{nat_tests}
use Rattle.smo_ops_types.specs.declared.version.Version.{Version}
use Rattle.smo_ops.proofs.BeginLaws.{begins_there}
use Rattle.smo_ops.proofs.version.begins_at.Goals as goal

pub returns : goal.returns
returns c =
    let next : (c.args.number - 1) + 1 ≡ c.args.number = grind (arith, nat_tests) in
    let there : c.args.number - 1 < length c.args.versions.now = grind (arith, nat_tests) in
    ap (λ (v : Version). v.stamp) (sym c.index-versions-number.is)
    ∙ begins_there c.args.versions.now c.args.number (c.args.number - 1)
    c.index-versions-number.result next there c.index-versions-number.is
