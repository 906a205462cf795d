use Rattle.std.proofs.Common.{length, map, ap, sym, ◌∙◌, arith}
use Rattle.std.proofs.lemmas.List.{length-map}
use Rattle.smo_ops_types.specs.Commands.{version_of}
use Rattle.smo_ops_spec.specs.ValidPast.{last_or_nought}
use Rattle.smo_ops_spec.specs.Past.{begun_at}
use Rattle.smo_ops_spec.proofs.PastMoments.{all_begun, few_begun}
use Rattle.version_groups.specs.Groups.{Kept}
use Rattle.version_groups.proofs.groups.Groups.version_at.Goals as goal

pub overflow_cast-result : goal.overflow_cast-result
overflow_cast-result c =
    let few = few_begun c.args.moment (map version_of c.deref.result.now) in
    let many = length-map c.deref.result.now version_of in
    let is = ap length c.deref.ensures.value in
    omega (arith, few, many, c.count_begun.ensures, is, c.self.invariant.fits)

pub returns-clause-number : goal.returns-clause-number
returns-clause-number c = λ past e.
    c.count_begun.ensures
    ∙ ap (λ vs. length (begun_at c.args.moment vs))
    (ap (map version_of) (c.deref.ensures.value ∙ ap (λ (k : Kept). k.versions) c.self.view_is)
    ∙ sym e)

pub returns-clause-newest : goal.returns-clause-newest
returns-clause-newest c = λ past represents at.
    let ends = represents.ends in
    returns-clause-number c past (sym represents.versions)
    ∙ ap length (all_begun (last_or_nought past.last) c.args.moment past.versions
    represents.valid.versions (omega (arith, ends, at)))
