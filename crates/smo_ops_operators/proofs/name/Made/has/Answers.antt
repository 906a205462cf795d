use Rattle.std.proofs.Common.{sym, ap, ◌∙◌}
use Rattle.std.specs.Option.{option_copied}
use Rattle.smo_ops_operators.proofs.OneOfNames.{first_named, no_second, second_named}
use Rattle.smo_ops_operators.proofs.name.Made.has.Goals as goal

pub returns-then-eq : goal.returns-then-eq
returns-then-eq c =
    c.if-eq.true ∙ sym (first_named (option_copied c.args.self.first)
    (option_copied c.args.self.second) c.in-Some.first.now c.args.name.now
    (ap option_copied c.in-Some.is) (sym c.eq.ensures ∙ c.if-eq.true))

pub returns-in-None-second : goal.returns-in-None-second
returns-in-None-second c =
    sym (no_second (option_copied c.args.self.first) (option_copied c.args.self.second)
    c.in-Some.first.now c.args.name.now (ap option_copied c.in-Some.is)
    (ap option_copied c.in-None-second.is) (sym c.eq.ensures ∙ c.if-eq.false))

pub returns-in-Some-second : goal.returns-in-Some-second
returns-in-Some-second c =
    c.eq-in-Some-second.ensures
    ∙ sym (second_named (option_copied c.args.self.first) (option_copied c.args.self.second)
    c.in-Some.first.now c.in-Some-second.second.now c.args.name.now
    (ap option_copied c.in-Some.is) (ap option_copied c.in-Some-second.is)
    (sym c.eq.ensures ∙ c.if-eq.false))
