use Rattle.std.proofs.Common.{◌≡◌, ◌+◌, ◌∙◌, ℕ, sym, ap, subst, length, arith}
use Rattle.std.specs.FinMap.{entries}
use Rattle.schema_catalog.specs.Tables.{Tables}
use Rattle.smo_ops_types.specs.Operators.{evolution_of}
use Rattle.smo_ops_types.specs.Commands.{versions_of}
use Rattle.smo_ops_spec.specs.Past.{no_tables, tables_from}
use Rattle.smo_ops_widths.specs.Widths.{Widths, widths_of, with_version, greatest}
use Rattle.smo_ops_widths.specs.Counted.{stopped}
use Rattle.smo_ops_widths.specs.Shown.{Show}
use Rattle.smo_ops_widths.proofs.VersionLaws.{last_step, tables_last}
use Rattle.smo_ops_widths.specs.AtHand.{all_widths}
use Rattle.smo_ops_widths.proofs.new_version.measure_on.Goals as goal

pub returns : goal.returns
returns c = λ stamp inverse.
    let vs = c.args.versions.now.list.items in
    let count : c.len-last.result ≡ length c.args.versions.now.list.items =
    (let n = c.len-last.ensures in omega (arith, n)) in
    let there = c.tables_at-newest.ensures
    ∙ ap (tables_from no_tables (versions_of c.args.versions.now)) count in
    let op = evolution_of c.args.op.now in
    let all = with_version (versions_of c.args.versions.now) stamp op inverse in
    let widths = widths_of all c.args.stored (length vs + 1) in
    let shown = subst (λ (w : Widths). Show (all_widths c.carry.new.widths) w)
    (last_step vs stamp op inverse c.tables_at-newest.result.now c.args.stored c.requires.there
    there)
    (c.in_ok-carry.ensures (widths_of (versions_of c.args.versions.now) c.args.stored (length vs))
    (subst (λ (n : ℕ). Show (all_widths c.in_ok-widths.widths)
    (widths_of (versions_of c.args.versions.now) c.args.stored n)) count
    c.in_ok-widths.ensures)) in
    c.greatest.ensures widths shown
    ∙ ap (λ (t : Tables). stopped (greatest (entries t) widths))
    (c.requires.next ∙ sym (tables_last vs stamp op inverse))
