use Rattle.std.proofs.Common.{◌∙◌, ap, rules}
use Rattle.std.specs.Int.{w128}
use mir.Val.{SFits}
use Rattle.std.proofs.lemmas.Int.{to_z-of_z}
use Rattle.prima_base.specs.Groups.{one, sum}
use Rattle.time_aggregate.proofs.TellLaws.{sum_told, min_told, max_told, min_there, max_there}
use Rattle.time_aggregate.proofs.sweep.value_of.Goals as goal

pub returns-in-Sum : goal.returns-in-Sum
returns-in-Sum c = λ rows t e h.
    let f : SFits w128 c.args.tally.now.sum = search rules in
    ap sum (to_z-of_z w128 c.args.tally.now.sum f)
    ∙ sum_told c.args.tally.now c.in-Sum.field-0 rows t c.in-Sum.is

pub returns-in-None : goal.returns-in-None
returns-in-None c = λ rows t e h.
    let m = min_there c.args.tally.now c.in-Min.field-0 rows t c.in-Min.is h in
    let f = c.in-None.ensures.variant.1 m in absurd (cc)

pub returns-in_ok-copied-in-Some : goal.returns-in_ok-copied-in-Some
returns-in_ok-copied-in-Some c = λ rows t e h. ap one c.in_ok-copied-in-Some.ensures
    ∙ min_told c.args.tally.now c.in-Min.field-0 rows t c.in-Min.is c.in-Some.key.now
    c.in-Some.field-0-1.now c.in-Some.ensures.value c.in-Some.ensures.least

pub returns-in-None-last_key_value : goal.returns-in-None-last_key_value
returns-in-None-last_key_value c = λ rows t e h.
    let m = max_there c.args.tally.now c.in-Max.field-0 rows t c.in-Max.is h in
    let f = c.in-None-last_key_value.ensures.variant.1 m in absurd (cc)

pub returns-in_ok-copied-in-Some-last_key_value : goal.returns-in_ok-copied-in-Some-last_key_value
returns-in_ok-copied-in-Some-last_key_value c = λ rows t e h.
    ap one c.in_ok-copied-in-Some-last_key_value.ensures
    ∙ max_told c.args.tally.now c.in-Max.field-0 rows t c.in-Max.is
    c.in-Some-last_key_value.key.now c.in-Some-last_key_value.field-0-1.now
    c.in-Some-last_key_value.ensures.value c.in-Some-last_key_value.ensures.greatest
