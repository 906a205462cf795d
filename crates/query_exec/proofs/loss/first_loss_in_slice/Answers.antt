use Rattle.std.specs.Prelude.{None}
use Rattle.std.proofs.Common.{◌≡◌, ◌≤◌, true, List, map, length, vec_len, sym, ap, subst, ◌∙◌}
use Rattle.std.proofs.Common.{arith}
use Rattle.std.proofs.lemmas.Result.{IfOk-weaker}
use Rattle.relations_spec.specs.Spans.{Span, covers, forever}
use Rattle.smo_ops_types.specs.Commands.{PlainVersion, version_of}
use Rattle.smo_ops_types.specs.declared.version.Version.{Version}
use Rattle.smo_ops_spec.specs.Past.{no_tables}
use Rattle.smo_ops_spec.specs.ValidPast.{AreVersions}
use Rattle.temporal_lang_types.specs.Queries.{query_of}
use Rattle.period_split.specs.Splitting.{Part}
use Rattle.query_exec.specs.Losing.{first_among, AllUpTo}
use Rattle.query_exec.proofs.FirstLosses.{all_there, first_of_parts}
use Rattle.query_exec.proofs.loss.first_loss_in_slice.Goals as goal

pub decided-requires-clause-there : goal.decided-requires-clause-there
decided-requires-clause-there c =
    subst (λ (ps : List Part). AllUpTo (vec_len c.versions.result.now.list) ps)
    (sym c.deref.ensures.value)
    (all_there c.args.groups.now (vec_len c.versions.result.now.list) c.slice-slice.result
    c.in_ok-parts.parts.items c.in_ok-parts.ensures.parts c.in_ok-parts.ensures.ascending
    (let e = ap (λ (vs : List Version). length vs) c.versions.ensures in omega (arith, e)))

pub decided-requires-clause-versions : goal.decided-requires-clause-versions
decided-requires-clause-versions c =
    subst (λ (vs : List PlainVersion). AreVersions None no_tables vs)
    (sym (ap (λ (vs : List Version). map version_of vs) c.versions.ensures
    ∙ c.requires.represents.1.versions)) c.requires.represents.1.valid.evolved

pub returns : goal.returns
returns c = λ past represents.
    let query = query_of c.args.query.now in
    IfOk-weaker c.decided.result _ _
    (λ loss e. e
    ∙ ap (λ (vs : List PlainVersion). first_among vs query c.deref.result.now)
    (ap (λ (vs : List Version). map version_of vs) c.versions.ensures ∙ represents.versions)
    ∙ ap (λ (ps : List Part). first_among past.versions query ps) c.deref.ensures.value
    ∙ first_of_parts past query c.in_ok-parts.parts.items c.in_ok-parts.ensures.ascending
    (subst (λ (s : Span). s.end ≤ forever) c.slice-slice.ensures.value c.ends_in_time.ensures)
    (λ m l i. c.in_ok-parts.ensures.each past represents m l
    (subst (λ (s : Span). covers s m ≡ true) (sym c.slice-slice.ensures.value) i))
    (λ k m h. (let f = c.in_ok-parts.ensures.only past represents k m h in
    (subst (λ (s : Span). covers s m ≡ true) c.slice-slice.ensures.value f.0, f.1))))
    c.decided.ensures
