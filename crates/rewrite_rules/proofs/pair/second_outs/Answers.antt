use Rattle.std.proofs.Common.{ℕ, List, ap}
use Rattle.std.specs.Prelude.{not}
use Rattle.prima_base.specs.Columns.{names_of}
use Rattle.smo_ops_types.specs.Changes.{sets_of}
use Rattle.smo_ops_spec.specs.Preconditions.{among}
use Rattle.piece_ir_spec.specs.OperatorViews.{from_second}
use Rattle.rewrite_rules.proofs.PairSteps.{among_names, names_more}
use Rattle.rewrite_rules.proofs.pair.second_outs.Goals as goal

pub loop-name-preserved : goal.loop-name-preserved
loop-name-preserved c = names_more from_second
    (λ (n : List ℕ). not (among n (names_of c.args.first.now))) c.args.second.now
    c.loop-name.name-index c.loop-name-item.result (not c.has_name.result)
    (sets_of c.loop-name.outs.items) (sets_of c.push_second.new.outs.items) c.loop-name-test.true
    c.loop-name-item.is
    (ap not (among_names c.loop-name-item.result.0 c.args.first.now c.has_name.result
    c.has_name.ensures)) c.loop-name.invariant c.in_ok-push_second.ensures
