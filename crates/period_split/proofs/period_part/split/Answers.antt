use Rattle.std.proofs.Common.{◌≡◌, List, map, length, sym, ap, subst, ◌∙◌}
use Rattle.smo_ops_types.specs.Commands.{version_of}
use Rattle.smo_ops_types.specs.declared.version.Version.{Version}
use Rattle.smo_ops_spec.specs.InForce.{begins_at}
use Rattle.version_groups.specs.Groups.{versions_in}
use Rattle.period_split.specs.Splitting.{Part, parts_below, split_by, AscendFrom}
use Rattle.period_split.proofs.PartLaws.{whole_split, each_moment, only_moments, split_ascends}
use Rattle.period_split.proofs.period_part.split.Goals as goal
use Rattle.period_split.proofs.period_part.split.Goals.{In_ok-put_part}

made : (c : In_ok-put_part) → c.put_part.new.parts.items
    ≡ split_by (versions_in c.args.groups.now) c.args.slice
made c =
    let d : c.deref.result.now ≡ c.args.groups.now.versions = c.deref.ensures.value
    ∙ c.versions.ensures in
    let e : c.deref-2.result.now ≡ c.args.groups.now.versions = c.deref-2.ensures.value
    ∙ c.versions.ensures in
    whole_split c.args.groups.now.versions c.args.slice c.in_ok-parts.parts.items
    c.put_part.new.parts.items c.newest-newest.result c.last_stamp.result
    c.newest-newest.ensures
    (c.in_ok-parts.ensures ∙ ap (λ (vs : List Version).
    parts_below (map version_of vs) c.args.slice (length vs)) d)
    (c.last_stamp.ensures ∙ ap (λ (vs : List Version). begins_at (map version_of vs) (length vs)) e)
    c.in_ok-put_part.ensures

pub returns-clause-parts : goal.returns-clause-parts
returns-clause-parts c = made (goal.at.returns-clause-parts c).In_ok-put_part

pub returns-clause-each : goal.returns-clause-each
returns-clause-each c = λ past represents m l e. each_moment c.args.groups.now past c.args.slice
    represents
    c.put_part.new.parts.items (made (goal.at.returns-clause-each c).In_ok-put_part) m l e

pub returns-clause-only : goal.returns-clause-only
returns-clause-only c = λ past represents k m h. only_moments c.args.groups.now past c.args.slice
    represents
    c.put_part.new.parts.items (made (goal.at.returns-clause-only c).In_ok-put_part) k m h

pub returns-clause-ascending : goal.returns-clause-ascending
returns-clause-ascending c =
    subst (λ (ps : List Part). AscendFrom 0 ps)
    (sym (made (goal.at.returns-clause-ascending c).In_ok-put_part))
    (split_ascends (versions_in c.args.groups.now) c.args.slice)
