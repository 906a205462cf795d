use Rattle.cond_expr.specs.Seen.{test}
use Rattle.join_exec_spec.proofs.PlaceLaws.{key_first, key_second}
use Rattle.join_exec_levels.proofs.place.key_places.Goals as goal

pub returns-then-b-taken-clause-values : goal.returns-then-b-taken-clause-values
returns-then-b-taken-clause-values c = key_first c.args.columns.now (test c.args.cond.now)
    c.in_ok-a.a c.in_ok-a.b c.args.taken c.args.width c.in_ok-a.ensures.values c.if-a-taken.true
    c.if-taken-b.true c.if-b-taken.true

pub returns-then-a-taken-2-clause-values : goal.returns-then-a-taken-2-clause-values
returns-then-a-taken-2-clause-values c = key_second c.args.columns.now (test c.args.cond.now)
    c.in_ok-a.a c.in_ok-a.b c.args.taken c.args.width c.in_ok-a.ensures.values c.if-b-taken-2.true
    c.if-taken-a.true c.if-a-taken-2.true
