use Rattle.std.proofs.Common.{List, map, sym, ap, subst, ◌∙◌}
use Rattle.std.specs.Prelude.{None}
use Rattle.smo_ops_types.specs.Commands.{PlainVersion, version_of}
use Rattle.smo_ops_spec.specs.Past.{no_tables}
use Rattle.smo_ops_spec.specs.ValidPast.{AreVersions}
use Rattle.version_groups.specs.Groups.{Kept}
use Rattle.cases_widths.proofs.version.evolved.Goals as goal

pub returns-clause-same : goal.returns-clause-same
returns-clause-same c = c.versions.ensures ∙ ap (λ (k : Kept). k.versions) c.groups.ensures.groups

pub returns-clause-valid : goal.returns-clause-valid
returns-clause-valid c =
    let represents = c.last.ensures.represents.1.groups in
    subst (λ (vs : List PlainVersion). AreVersions None no_tables vs)
    (sym represents.versions ∙ ap (map version_of) (sym (returns-clause-same c)))
    represents.valid.evolved
