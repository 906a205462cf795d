use Rattle.std.proofs.Common.{◌∙◌}
use Rattle.rewrite_rules.proofs.PairSteps.{among_names, first_has, second_has, neither_has}
use Rattle.rewrite_rules.proofs.pair.atom_of.Goals as goal

pub returns-then-has_name : goal.returns-then-has_name
returns-then-has_name c = first_has c.args.first.now c.args.second.now c.args.name.now
    (among_names c.args.name.now c.args.first.now c.has_name.result c.has_name.ensures
    ∙ c.if-has_name.true)

pub returns-then-has_name-2 : goal.returns-then-has_name-2
returns-then-has_name-2 c = second_has c.args.first.now c.args.second.now c.args.name.now
    (among_names c.args.name.now c.args.first.now c.has_name.result c.has_name.ensures
    ∙ c.if-has_name.false)
    (among_names c.args.name.now c.args.second.now c.has_name-2.result c.has_name-2.ensures
    ∙ c.if-has_name-2.true)

pub returns : goal.returns
returns c = neither_has c.args.first.now c.args.second.now c.args.name.now
    (among_names c.args.name.now c.args.second.now c.has_name-2.result c.has_name-2.ensures
    ∙ c.if-has_name-2.false)
