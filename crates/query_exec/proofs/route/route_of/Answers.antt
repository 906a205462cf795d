use Rattle.std.proofs.Common.{◌≤◌, List, length, refl, ap, ◌∙◌, arith}
use Rattle.std.proofs.lemmas.List.{length-map}
use Rattle.smo_ops_types.specs.Commands.{version_of}
use Rattle.smo_ops_spec.specs.Past.{version_at}
use Rattle.version_groups.specs.Groups.{versions_in}
use Rattle.period_split.specs.Splitting.{Part}
use Rattle.query_exec.specs.Routes.{back_from, on_from}
use Rattle.query_exec.proofs.RouteLaws.{is_route}
use Rattle.query_exec.proofs.route.route_of.Goals as goal

pub returns-clause-route : goal.returns-clause-route
returns-clause-route c =
    let many = length-map c.args.groups.now.versions version_of in
    let there : c.args.asked ≤ length (versions_in c.args.groups.now) =
    omega (arith, c.requires.there) in
    is_route (versions_in c.args.groups.now) (record {
      asked = c.args.asked;
      slice = c.args.slice;
      parts = c.in_ok-parts.parts;
      earlier =
          c.in_ok-earlier.earlier;
      later = c.in_ok-later.later;
    }) c.in_ok-parts.parts.items
    there c.in_ok-parts.ensures.parts c.in_ok-parts.ensures.ascending c.ends_in_time.ensures refl
    (c.in_ok-earlier.ensures ∙ ap (λ (ps : List Part). back_from c.args.asked ps)
    c.deref.ensures.value)
    (c.in_ok-later.ensures ∙ ap (λ (ps : List Part). on_from c.args.asked ps)
    c.deref-2.ensures.value)
    (λ m l i. (
      version_at c.requires.represents.0 m,
      c.in_ok-parts.ensures.each c.requires.represents.0 c.requires.represents.1 m l i,
    ))
