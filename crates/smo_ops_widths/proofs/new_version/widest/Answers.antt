use Rattle.std.proofs.Common.{◌≡◌, ◌+◌, ◌-◌, ◌<◌, ℕ, max, ap, sym, subst, ◌∙◌, length}
use Rattle.std.proofs.Common.{List, refl, arith}
use Rattle.std.specs.BTreeSet.{contains}
use Rattle.std.specs.FinMap.{entries}
use Rattle.prima_base.specs.Order.{bytes_cmp}
use Rattle.schema_catalog.specs.Tables.{Tables}
use Rattle.smo_ops_types.specs.declared.op.Op.{Op}
use Rattle.smo_ops_types.specs.Operators.{operator_of, operators_of}
use Rattle.smo_ops_types.specs.Operators.{evolution_of, evolutions_of}
use Rattle.smo_ops_types.specs.Commands.{versions_of}
use Rattle.smo_ops_spec.specs.After.{HaveFewNodes}
use Rattle.smo_ops_spec.specs.Evolutions.{AllOperatorsAccepted}
use Rattle.smo_ops_spec.proofs.OneMembers.{accepted_ones, few_nodes_of_ones}
use Rattle.smo_ops_spec.specs.Past.{no_tables, tables_from}
use Rattle.smo_ops_widths.specs.Widths.{widths_of, with_version, greatest, greatest_of, widest_with}
use Rattle.smo_ops_widths.specs.Creating.{NameAll}
use Rattle.smo_ops_widths.specs.Dead.{AreDead}
use Rattle.smo_ops_widths.specs.Counted.{stopped}
use Rattle.smo_ops_widths.specs.Shown.{Show}
use Rattle.smo_ops_widths.proofs.VersionLaws.{version_few, version_accepted}
use Rattle.smo_ops_widths.proofs.VersionLaws.{tables_before, newest_at}
use Rattle.smo_ops_widths.proofs.WidestSteps.{GoesBack, accepted_here, next_here, inverse_accepted}
use Rattle.smo_ops_widths.proofs.WidestSteps.{shown_first, shown_next, most_first, most_next}
use Rattle.smo_ops_widths.proofs.WidestSteps.{most_last, named_first, named_next, dead_first, dead_next, none_in}
use Rattle.smo_ops_widths.specs.AtHand.{all_widths}
use Rattle.smo_ops_widths.proofs.new_version.widest.Goals as goal

pub go_back-requires-clause-accepted : goal.go_back-requires-clause-accepted
go_back-requires-clause-accepted c =
    let vs = c.args.versions.now.list.items in
    let op = evolution_of c.args.op.now in
    let inverse = evolutions_of c.args.inverse.now in
    let newest = c.tables_at-newest.result.now in
    let count : c.len-k.result ≡ length c.args.versions.now.list.items =
    (let n = c.len-k.ensures in omega (arith, n)) in
    let there = c.tables_at-newest.ensures
    ∙ ap (tables_from no_tables (versions_of c.args.versions.now)) count in
    accepted_ones c.in_ok-next.next (operators_of c.args.inverse.now)
    (inverse_accepted vs op inverse c.in_ok-next.next
    (next_here vs op inverse newest c.in_ok-next.next there (c.in_ok-next.ensures.evolution
    (accepted_here vs op inverse newest c.in_ok-next.next there c.requires.accepted)))
    c.requires.inverse)

pub go_back-requires-clause-few : goal.go_back-requires-clause-few
go_back-requires-clause-few c = few_nodes_of_ones (operators_of c.args.inverse.now) c.requires.few

pub measure_on-requires-clause-next : goal.measure_on-requires-clause-next
measure_on-requires-clause-next c =
    let vs = c.args.versions.now.list.items in
    let op = evolution_of c.args.op.now in
    let inverse = evolutions_of c.args.inverse.now in
    let newest = c.tables_at-newest.result.now in
    let count : c.len-k.result ≡ length c.args.versions.now.list.items =
    (let n = c.len-k.ensures in omega (arith, n)) in
    let there = c.tables_at-newest.ensures
    ∙ ap (tables_from no_tables (versions_of c.args.versions.now)) count in
    next_here vs op inverse newest c.in_ok-next.next there (c.in_ok-next.ensures.evolution
    (accepted_here vs op inverse newest c.in_ok-next.next there c.requires.accepted))

pub loop-k-init : goal.loop-k-init
loop-k-init c =
    let vs = c.args.versions.now.list.items in
    let op = evolution_of c.args.op.now in
    let inverse = evolutions_of c.args.inverse.now in
    let newest = c.tables_at-newest.result.now in
    let count : c.len-k.result ≡ length c.args.versions.now.list.items =
    (let n = c.len-k.ensures in omega (arith, n)) in
    let there = c.tables_at-newest.ensures
    ∙ ap (tables_from no_tables (versions_of c.args.versions.now)) count in
    let next = next_here vs op inverse newest c.in_ok-next.next there (c.in_ok-next.ensures.evolution
    (accepted_here vs op inverse newest c.in_ok-next.next there c.requires.accepted)) in
    let shown : (stamp : ℕ) → Show (all_widths c.go_back.new.widths) (widths_of (with_version
    (versions_of c.args.versions.now) stamp op inverse) (length vs + 1) (length vs)) =
    λ stamp. shown_first vs op inverse stamp newest c.in_ok-next.next
    (all_widths c.in_ok-widths.widths) (all_widths c.go_back.new.widths) (there ∙ newest_at vs) next
    c.in_ok-widths.ensures (c.in_ok-go_back.ensures newest) in
    record {
      within = omega (arith, count);
      next = next;
      shown = λ stamp.
          (let all = with_version (versions_of c.args.versions.now) stamp op inverse in
          subst (λ (n : ℕ). Show (all_widths c.go_back.new.widths) (widths_of all (length vs + 1) n))
          (sym count) (shown stamp));
      named = λ stamp.
          (let all = with_version (versions_of c.args.versions.now) stamp op inverse in
          subst (λ (n : ℕ). NameAll (contains bytes_cmp c.insert_named.new.names) all n) (sym count)
          (named_first vs op inverse stamp (contains bytes_cmp c.insert_named.new.names)
          (λ n f. ((c.in_ok-insert_named.ensures n f).1, tt))));
      dead = λ stamp.
          (let all = with_version (versions_of c.args.versions.now) stamp op inverse in
          subst (λ (n : ℕ). AreDead (contains bytes_cmp c.go_before.new.dead) all n (length vs + 1))
          (sym count) (dead_first vs op inverse stamp (contains bytes_cmp c.new-dead.result)
          (contains bytes_cmp c.go_before.new.dead) (λ n. none_in c.new-dead.result n c.new-dead.ensures.empty)
          (operator_of c.args.op.now) refl c.in_ok-go_before.ensures));
      last = λ stamp.
          (let all = with_version (versions_of c.args.versions.now) stamp op inverse in
          let widths = widths_of all (length vs + 1) (length vs) in
          most_first vs op inverse stamp c.max-begun.result c.in_ok-on.on c.greatest.result
          (c.in_ok-on.ensures stamp inverse
          ∙ ap (λ (n : ℕ). stopped (greatest_of all n (length vs + 1))) count)
          (c.greatest.ensures widths (shown stamp)
          ∙ ap (λ (t : Tables). stopped (greatest (entries t) widths))
          (there ∙ sym (tables_before vs stamp op inverse (length vs) (omega arith))))
          c.max-begun.ensures).0;
      most = λ stamp.
          (let every = with_version (versions_of c.args.versions.now) stamp op inverse in
          subst (λ (n : ℕ). stopped (widest_with every (length vs + 1) (length vs + 1))
          ≡ stopped (max c.max-begun.result (widest_with every (length vs + 1) n))) (sym count)
          (let all = with_version (versions_of c.args.versions.now) stamp op inverse in
          let widths = widths_of all (length vs + 1) (length vs) in
          most_first vs op inverse stamp c.max-begun.result c.in_ok-on.on c.greatest.result
          (c.in_ok-on.ensures stamp inverse
          ∙ ap (λ (n : ℕ). stopped (greatest_of all n (length vs + 1))) count)
          (c.greatest.ensures widths (shown stamp)
          ∙ ap (λ (t : Tables). stopped (greatest (entries t) widths))
          (there ∙ sym (tables_before vs stamp op inverse (length vs) (omega arith))))
          c.max-begun.ensures).1);
    }

pub go_back-requires-in-loop-k-clause-accepted : goal.go_back-requires-in-loop-k-clause-accepted
go_back-requires-in-loop-k-clause-accepted c =
    let vs = c.args.versions.now.list.items in
    let test = c.loop-k-test.true in
    let within = c.loop-k.invariant.within in
    let j = c.loop-k.k - 1 in
    let below : j < length vs = omega (arith, test, within) in
    subst (λ (ops : List Op). AllOperatorsAccepted c.index-version.result.now.schema
    (operators_of ops)) (sym c.deref.ensures.value)
    (version_accepted vs c.requires.versions j c.index-version.result.now below
    c.index-version.ensures)

pub go_back-requires-in-loop-k-clause-few : goal.go_back-requires-in-loop-k-clause-few
go_back-requires-in-loop-k-clause-few c =
    let vs = c.args.versions.now.list.items in
    let test = c.loop-k-test.true in
    let within = c.loop-k.invariant.within in
    let j = c.loop-k.k - 1 in
    let below : j < length vs = omega (arith, test, within) in
    subst (λ (ops : List Op). HaveFewNodes (operators_of ops)) (sym c.deref.ensures.value)
    (version_few vs c.requires.versions j c.index-version.result.now below c.index-version.ensures)

pub loop-k-preserved : goal.loop-k-preserved
loop-k-preserved c =
    let vs = c.args.versions.now.list.items in
    let op = evolution_of c.args.op.now in
    let inverse = evolutions_of c.args.inverse.now in
    let test = c.loop-k-test.true in
    let within = c.loop-k.invariant.within in
    let j = c.loop-k.k - 1 in
    let v = c.index-version.result.now in
    let below : j < length vs = omega (arith, test, within) in
    let behind : j + 1 ≡ c.loop-k.k = omega (arith, test) in
    let before = tables_from no_tables (versions_of c.args.versions.now) j in
    let shown : (stamp : ℕ) → Show (all_widths c.go_back-in-loop-k.new.widths) (widths_of (with_version
    (versions_of c.args.versions.now) stamp op inverse) (length vs + 1) (c.loop-k.k - 1)) =
    λ stamp. shown_next vs op inverse stamp c.loop-k.k j v before
    (all_widths c.loop-k.widths) (all_widths c.go_back-in-loop-k.new.widths) behind below
    c.index-version.ensures refl (c.loop-k.invariant.shown stamp)
    (subst (λ (ops : List Op). GoesBack (all_widths c.loop-k.widths)
    (all_widths c.go_back-in-loop-k.new.widths) before (evolution_of v.op) v.schema
    (evolutions_of ops)) c.deref.ensures.value (c.in_ok-go_back-2.ensures before)) in
    let named : (stamp : ℕ) → NameAll (contains bytes_cmp c.insert_named-in-loop-k.new.names)
    (with_version (versions_of c.args.versions.now) stamp op inverse) (c.loop-k.k - 1) =
    λ stamp. named_next vs op inverse stamp (contains bytes_cmp c.loop-k.names)
    (contains bytes_cmp c.insert_named-in-loop-k.new.names) c.loop-k.k j v behind below
    c.index-version.ensures
    (λ n f. (let named = c.in_ok-insert_named-2.ensures n f in (named.0, (named.1, tt))))
    (c.loop-k.invariant.named stamp) in
    let dead : (stamp : ℕ) → AreDead (contains bytes_cmp c.go_before-in-loop-k.new.dead)
    (with_version (versions_of c.args.versions.now) stamp op inverse) (c.loop-k.k - 1)
    (length vs + 1) =
    λ stamp. dead_next vs op inverse stamp (contains bytes_cmp c.loop-k.dead)
    (contains bytes_cmp c.go_before-in-loop-k.new.dead) c.loop-k.k j v behind below
    c.index-version.ensures c.in_ok-go_before-2.ensures (c.loop-k.invariant.dead stamp) in
    record {
      within = omega (arith, within);
      next = c.loop-k.invariant.next;
      shown = shown;
      named = named;
      dead = dead;
      last = λ stamp.
          (let last = c.loop-k.invariant.last stamp in
          let more = c.max-most.ensures in omega (arith, last, more));
      most = λ stamp.
          (let all = with_version (versions_of c.args.versions.now) stamp op inverse in
          most_next vs op inverse stamp c.loop-k.k j c.loop-k.most c.in_ok-more.more
          (omega (arith, test)) (c.loop-k.invariant.most stamp)
          (c.in_ok-more.ensures stamp inverse (shown stamp) (named stamp) (dead stamp) c.loop-k.most
          (c.loop-k.invariant.last stamp))
          ∙ sym (ap (λ (n : ℕ). stopped (max n (widest_with all (length vs + 1) (c.loop-k.k - 1))))
          c.max-most.ensures));
    }

pub returns : goal.returns
returns c = λ stamp.
    let vs = c.args.versions.now.list.items in
    let op = evolution_of c.args.op.now in
    let inverse = evolutions_of c.args.inverse.now in
    let test = c.loop-k-test.false in
    c.min.ensures
    ∙ most_last vs op inverse stamp c.loop-k.k c.loop-k.most (omega (arith, test))
    (c.loop-k.invariant.most stamp)
