use Rattle.std.proofs.Common.{◌≡◌, ◌+◌, ◌-◌, ◌<◌, ◌∙◌, ℕ, List, length, ap, sym, subst, arith}
use Rattle.std.proofs.lemmas.Result.{IfOk-weaker}
use Rattle.smo_ops_types.specs.declared.op.Op.{Op}
use Rattle.smo_ops_types.specs.Operators.{operators_of, evolution_of, evolutions_of}
use Rattle.smo_ops_spec.specs.After.{HaveFewNodes}
use Rattle.smo_ops_spec.specs.Evolutions.{AllOperatorsAccepted}
use Rattle.smo_ops_versions_spec.specs.Steps.{taken}
use Rattle.smo_ops_versions_spec.specs.Ways.{back_over}
use Rattle.smo_ops_versions_spec.specs.LostNames.{losses_stepped}
use Rattle.rewrite_losses.proofs.Sides.{step_valid, step_columns, step_accepted, step_next}
use Rattle.rewrite_losses.proofs.Sides.{back_few, back_accepted, back_step}
use Rattle.rewrite_losses.proofs.version_way.lose_version.Goals as goal

pub lose_back-requires-clause-valid : goal.lose_back-requires-clause-valid
lose_back-requires-clause-valid c =
    let below : c.args.number - 1 < length c.args.versions.now.list.items =
    omega (arith, c.requires.there, c.requires.first) in
    step_valid c.args.versions.now.list.items c.requires.versions (c.args.number - 1)
    c.index-version.result.now below c.index-version.ensures c.tables_at-before.result.now
    c.tables_at-before.ensures

pub lose_back-requires-clause-columns : goal.lose_back-requires-clause-columns
lose_back-requires-clause-columns c =
    let below : c.args.number - 1 < length c.args.versions.now.list.items =
    omega (arith, c.requires.there, c.requires.first) in
    step_columns c.args.versions.now.list.items c.requires.versions (c.args.number - 1)
    c.index-version.result.now below c.index-version.ensures c.tables_at-before.result.now
    c.tables_at-before.ensures

pub lose_back-requires-clause-accepted : goal.lose_back-requires-clause-accepted
lose_back-requires-clause-accepted c =
    let below : c.args.number - 1 < length c.args.versions.now.list.items =
    omega (arith, c.requires.there, c.requires.first) in
    step_accepted c.args.versions.now.list.items c.requires.versions (c.args.number - 1)
    c.index-version.result.now below c.index-version.ensures c.tables_at-before.result.now
    c.tables_at-before.ensures

pub lose_back-requires-clause-after : goal.lose_back-requires-clause-after
lose_back-requires-clause-after c =
    let below : c.args.number - 1 < length c.args.versions.now.list.items =
    omega (arith, c.requires.there, c.requires.first) in
    step_next c.args.versions.now.list.items c.requires.versions (c.args.number - 1)
    c.index-version.result.now below c.index-version.ensures c.tables_at-before.result.now
    c.tables_at-before.ensures

pub lose_back-requires-clause-inverse : goal.lose_back-requires-clause-inverse
lose_back-requires-clause-inverse c =
    let below : c.args.number - 1 < length c.args.versions.now.list.items =
    omega (arith, c.requires.there, c.requires.first) in
    subst (λ (ops : List Op). AllOperatorsAccepted c.index-version.result.now.schema
    (operators_of ops)) (sym c.deref.ensures.value)
    (back_accepted c.args.versions.now.list.items c.requires.versions (c.args.number - 1)
    c.index-version.result.now below c.index-version.ensures)

pub lose_back-requires-clause-few : goal.lose_back-requires-clause-few
lose_back-requires-clause-few c =
    let below : c.args.number - 1 < length c.args.versions.now.list.items =
    omega (arith, c.requires.there, c.requires.first) in
    subst (λ (ops : List Op). HaveFewNodes (operators_of ops)) (sym c.deref.ensures.value)
    (back_few c.args.versions.now.list.items c.requires.versions (c.args.number - 1)
    c.index-version.result.now below c.index-version.ensures)

pub returns : goal.returns
returns c =
    let below : c.args.number - 1 < length c.args.versions.now.list.items =
    omega (arith, c.requires.there, c.requires.first) in
    let same : c.args.number ≡ c.args.number - 1 + 1 = omega (arith, c.requires.first) in
    IfOk-weaker c.lose_back.result _ _ (λ u h.
    back_step c.args.versions.now.list.items c.requires.versions (c.args.number - 1)
    c.index-version.result.now below c.index-version.ensures c.tables_at-before.result.now
    c.args.losses.now c.lose_back.new.losses c.tables_at-before.ensures
    (h ∙ ap (λ (n : ℕ). taken losses_stepped (back_over n c.tables_at-before.result.now
    (evolution_of c.index-version.result.now.op) c.index-version.result.now.schema
    (evolutions_of c.deref.result.now)) c.args.losses.now) same
    ∙ ap (λ (ops : List Op). taken losses_stepped (back_over (c.args.number - 1 + 1)
    c.tables_at-before.result.now (evolution_of c.index-version.result.now.op)
    c.index-version.result.now.schema (evolutions_of ops)) c.args.losses.now)
    c.deref.ensures.value)) c.lose_back.ensures
