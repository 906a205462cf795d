use Rattle.std.proofs.Common.{◌+◌, ◌-◌, ◌≤◌, ℕ, max, sym, ap, ◌∙◌, length, subst}
use Rattle.std.proofs.Common.{arith, inl, inr}
use Rattle.std.specs.FinMap.{entries}
use Rattle.std.specs.BTreeSet.{contains}
use Rattle.prima_base.specs.Order.{bytes_cmp}
use Rattle.schema_catalog.specs.Tables.{Tables}
use Rattle.smo_ops_types.specs.Operators.{evolution_of}
use Rattle.smo_ops_types.specs.Commands.{versions_of}
use Rattle.smo_ops_widths.specs.Widths.{widths_of, with_version, greatest, greatest_of}
use Rattle.smo_ops_widths.specs.Widths.{widest_with}
use Rattle.smo_ops_widths.specs.Counted.{stopped}
use Rattle.smo_ops_widths.proofs.StoppedLaws.{both_read, back_read}
use Rattle.smo_ops_widths.proofs.VersionLaws.{tables_before}
use Rattle.smo_ops_widths.proofs.SkippedVersions.{read_covered}
use Rattle.smo_ops_widths.proofs.ReadNone.{read_none}
use Rattle.smo_ops_widths.proofs.new_version.measure_at.Goals as goal

pub returns : goal.returns
returns c = λ stamp inverse s named dead most low.
    let vs = c.args.versions.now.list.items in
    let op = evolution_of c.args.op.now in
    let k = c.args.k in
    let all = with_version (versions_of c.args.versions.now) stamp op inverse in
    let widths = widths_of all (length vs + 1) k in
    let near : k ≤ length vs = (let there = c.requires.there in omega (arith, there)) in
    let back = c.greatest-back.ensures widths s
    ∙ ap (λ (t : Tables). stopped (greatest (entries t) widths))
    (c.tables_at.ensures ∙ sym (tables_before vs stamp op inverse k near)) in
    ap (λ (n : ℕ). stopped (max (max most n) (widest_with all (length vs + 1) k))) c.max.ensures
    ∙ both_read most c.in_ok-on.on c.greatest-back.result (greatest_of all k (length vs + 1))
    (greatest_of all (length vs + 1) k) (widest_with all (length vs + 1) k)
    (c.in_ok-on.ensures stamp inverse) back

pub returns-then-is_covered : goal.returns-then-is_covered
returns-then-is_covered c = λ stamp inverse s named dead most low.
    let vs = c.args.versions.now.list.items in
    let op = evolution_of c.args.op.now in
    let k = c.args.k in
    let all = with_version (versions_of c.args.versions.now) stamp op inverse in
    let widths = widths_of all (length vs + 1) k in
    let near : k ≤ length vs = (let there = c.requires.there in omega (arith, there)) in
    let back = c.greatest-back.ensures widths s
    ∙ ap (λ (t : Tables). stopped (greatest (entries t) widths))
    (c.tables_at.ensures ∙ sym (tables_before vs stamp op inverse k near)) in
    back_read most c.greatest-back.result (greatest_of all k (length vs + 1))
    (greatest_of all (length vs + 1) k) (widest_with all (length vs + 1) k)
    (greatest_of all (length vs) (length vs + 1)) back
    (elim (c.is_covered.ensures c.if-is_covered.true) [
      | inl none ↦ subst (λ (n : ℕ). greatest_of all n (length vs + 1)
          ≤ max (widest_with all (length vs + 1) k) (greatest_of all (length vs) (length vs + 1)))
          (sym none) (let nothing = read_none all (length vs + 1) in omega (arith, nothing))
      | inr skips ↦ read_covered vs stamp op inverse c.requires.versions (k - 1) k skips.0 skips.1
          skips.2 skips.3 (contains bytes_cmp c.args.names.now)
          (contains bytes_cmp c.args.dead.now) named dead skips.4
    ]) low
