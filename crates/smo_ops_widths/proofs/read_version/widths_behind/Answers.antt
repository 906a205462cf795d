use Rattle.std.proofs.Common.{◌≡◌, ◌+◌, ◌-◌, ◌<◌, ℕ, List, ap, sym, subst, ◌∙◌, length, arith, refl}
use Rattle.smo_ops_types.specs.declared.op.Op.{Op}
use Rattle.smo_ops_types.specs.Operators.{operators_of}
use Rattle.smo_ops_types.specs.Operators.{evolution_of, evolutions_of}
use Rattle.smo_ops_types.specs.Commands.{versions_of}
use Rattle.smo_ops_spec.specs.After.{HaveFewNodes}
use Rattle.smo_ops_spec.specs.Evolutions.{AllOperatorsAccepted}
use Rattle.smo_ops_spec.specs.Past.{no_tables, tables_from}
use Rattle.smo_ops_versions_spec.proofs.WaySteps.{taken_stays}
use Rattle.smo_ops_widths.specs.Widths.{Widths, own_widths, widths_of, widths_stepped}
use Rattle.smo_ops_widths.specs.Shown.{Show}
use Rattle.smo_ops_widths.proofs.VersionLaws.{version_few, version_accepted}
use Rattle.smo_ops_widths.proofs.VersionLaws.{back_step}
use Rattle.smo_ops_widths.proofs.WidestSteps.{GoesBack}
use Rattle.smo_ops_widths.specs.AtHand.{all_widths}
use Rattle.smo_ops_widths.proofs.read_version.widths_behind.Goals as goal

pub loop-k-init : goal.loop-k-init
loop-k-init c =
    let versions = versions_of c.args.versions.now in
    record {
      low = c.requires.order;
      high = omega arith;
      shown = subst (λ (w : Widths). Show (all_widths c.in_ok-widths.widths) w)
          (ap own_widths c.tables_at.ensures
          ∙ sym (taken_stays versions widths_stepped c.args.stored
          (own_widths (tables_from no_tables versions c.args.stored)))) c.in_ok-widths.ensures;
    }

pub go_back-requires-clause-accepted : goal.go_back-requires-clause-accepted
go_back-requires-clause-accepted c =
    let vs = c.args.versions.now.list.items in
    let test = c.loop-k-test.true in
    let high = c.loop-k.invariant.high in
    let there = c.requires.there in
    let j = c.loop-k.k - 1 in
    let below : j < length vs = omega (arith, test, high, there) in
    subst (λ (ops : List Op). AllOperatorsAccepted c.index-version.result.now.schema
    (operators_of ops)) (sym c.deref.ensures.value)
    (version_accepted vs c.requires.versions j c.index-version.result.now below
    c.index-version.ensures)

pub go_back-requires-clause-few : goal.go_back-requires-clause-few
go_back-requires-clause-few c =
    let vs = c.args.versions.now.list.items in
    let test = c.loop-k-test.true in
    let high = c.loop-k.invariant.high in
    let there = c.requires.there in
    let j = c.loop-k.k - 1 in
    let below : j < length vs = omega (arith, test, high, there) in
    subst (λ (ops : List Op). HaveFewNodes (operators_of ops)) (sym c.deref.ensures.value)
    (version_few vs c.requires.versions j c.index-version.result.now below c.index-version.ensures)

pub loop-k-preserved : goal.loop-k-preserved
loop-k-preserved c =
    let vs = c.args.versions.now.list.items in
    let test = c.loop-k-test.true in
    let low = c.loop-k.invariant.low in
    let high = c.loop-k.invariant.high in
    let there = c.requires.there in
    let j = c.loop-k.k - 1 in
    let v = c.index-version.result.now in
    let widths = λ (n : ℕ). widths_of (versions_of c.args.versions.now) c.args.stored n in
    let below : j < length vs = omega (arith, test, high, there) in
    let behind : j < c.args.stored = omega (arith, test, high) in
    let here : c.loop-k.k ≡ j + 1 = omega (arith, test) in
    let before = tables_from no_tables (versions_of c.args.versions.now) j in
    let back = subst (λ (ops : List Op). GoesBack (all_widths c.loop-k.widths)
    (all_widths c.go_back.new.widths) before (evolution_of v.op)
    v.schema (evolutions_of ops)) c.deref.ensures.value (c.in_ok-go_back.ensures before) in
    record {
      low = omega (arith, low, test);
      high = omega (arith, high);
      shown = subst (λ (w : Widths). Show (all_widths c.go_back.new.widths) w)
          (back_step vs j v before c.args.stored below
          c.index-version.ensures refl behind)
          (back (j + 1) (widths (j + 1)) (subst (λ (n : ℕ). Show (all_widths c.loop-k.widths)
          (widths n)) here c.loop-k.invariant.shown));
    }

pub returns : goal.returns
returns c =
    let test = c.loop-k-test.false in
    let low = c.loop-k.invariant.low in
    let end : c.loop-k.k ≡ c.args.asked = omega (arith, test, low) in
    subst (λ (n : ℕ). Show (all_widths c.loop-k.widths)
    (widths_of (versions_of c.args.versions.now) c.args.stored n)) end c.loop-k.invariant.shown
