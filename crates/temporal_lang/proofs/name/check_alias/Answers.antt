use Rattle.std.proofs.Common.{sym, ap, ◌∙◌, get_or, arith, Some}
use Rattle.prima_base.specs.declared.refusal.Refusal.TheVariants.{NoColumn, NoTable}
use Rattle.prima_base.specs.Columns.{names_of}
use Rattle.smo_ops_spec.specs.First.{unless}
use Rattle.smo_ops_spec.specs.Effects.{columns_of}
use Rattle.smo_ops_spec.specs.Preconditions.{among}
use Rattle.plain_answers_spec.specs.Branches.{Item}
use Rattle.temporal_lang_spec.specs.Atoms.{source_of, has_alias}
use Rattle.temporal_lang_spec.specs.Checking.{column_fault}
use Rattle.temporal_lang.proofs.PlaceLaws.{nowhere, somewhere}
use Rattle.temporal_lang.proofs.name.check_alias.Goals as goal

pub returns-then-place-from : goal.returns-then-place-from
returns-then-place-from c =
    ap (λ o. column_fault o c.args.alias.now c.args.name.now)
    (nowhere (has_alias c.args.alias.now) (source_of c.args.schema.now) c.args.from.now
    (sym (c.alias_place-place.ensures.value c.args.schema.now) ∙ c.if-place-from.true))
    ∙ ap (λ n. Some (NoTable n)) (sym c.in_ok-copy.ensures)

pub returns-then-not-has_column : goal.returns-then-not-has_column
returns-then-not-has_column c =
    let value = c.alias_place-place.ensures.value c.args.schema.now in
    let within = c.alias_place-place.ensures.within in
    let z = c.index-from-place.result in
    ap (λ o. column_fault o c.args.alias.now c.args.name.now)
    (somewhere (has_alias c.args.alias.now) (source_of c.args.schema.now) c.args.from.now z
    (let other = c.if-place-from.false in omega (arith, value, within, other))
    (c.index-from-place.is ∙ ap (λ k. get_or c.args.from.now k z) value))
    ∙ ap (λ (y : Item). unless (among c.args.name.now (names_of (columns_of c.args.schema.now y.0)))
    (NoColumn c.args.name.now)) c.index-from-place.is
    ∙ ap (λ b. unless b (NoColumn c.args.name.now))
    (sym c.has_column.ensures ∙ c.if-not-has_column.true)
    ∙ ap (λ n. Some (NoColumn n)) (sym c.in_ok-copy-2.ensures)

pub returns : goal.returns
returns c =
    let value = c.alias_place-place.ensures.value c.args.schema.now in
    let within = c.alias_place-place.ensures.within in
    let z = c.index-from-place.result in
    ap (λ o. column_fault o c.args.alias.now c.args.name.now)
    (somewhere (has_alias c.args.alias.now) (source_of c.args.schema.now) c.args.from.now z
    (let other = c.if-place-from.false in omega (arith, value, within, other))
    (c.index-from-place.is ∙ ap (λ k. get_or c.args.from.now k z) value))
    ∙ ap (λ (y : Item). unless (among c.args.name.now (names_of (columns_of c.args.schema.now y.0)))
    (NoColumn c.args.name.now)) c.index-from-place.is
    ∙ ap (λ b. unless b (NoColumn c.args.name.now))
    (sym c.has_column.ensures ∙ c.if-not-has_column.false)
