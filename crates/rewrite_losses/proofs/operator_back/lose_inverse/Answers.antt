use Rattle.std.proofs.Common.{◌∙◌, sym, ap}
use Rattle.std.proofs.lemmas.Result.{IfOk-weaker}
use Rattle.std.specs.Option.{option_map}
use Rattle.schema_catalog.specs.Tables.{Tables}
use Rattle.smo_ops_types.specs.Operators.{operator_of}
use Rattle.smo_ops_spec.specs.After.{op_fault, schema_after}
use Rattle.rewrite_losses.proofs.OneBack.{inverse_of, told}
use Rattle.rewrite_losses.proofs.operator_back.lose_inverse.Goals as goal

pub lose_over-requires-clause-accepted : goal.lose_over-requires-clause-accepted
lose_over-requires-clause-accepted c =
    ap (λ (t : Tables). op_fault t (operator_of c.in-Some.back)) c.requires.after
    ∙ (inverse_of c.args.before.now (operator_of c.args.op.now) (operator_of c.in-Some.back)
    c.requires.valid c.requires.columns c.requires.accepted c.requires.inverse
    (sym (ap (option_map operator_of) c.in-Some.is) ∙ c.in_ok-back.ensures)).accepted

pub lose_over-requires-clause-after : goal.lose_over-requires-clause-after
lose_over-requires-clause-after c =
    sym (ap (λ (t : Tables). schema_after t (operator_of c.in-Some.back)) c.requires.after
    ∙ (inverse_of c.args.before.now (operator_of c.args.op.now) (operator_of c.in-Some.back)
    c.requires.valid c.requires.columns c.requires.accepted c.requires.inverse
    (sym (ap (option_map operator_of) c.in-Some.is) ∙ c.in_ok-back.ensures)).leads)

pub returns-in-Some : goal.returns-in-Some
returns-in-Some c = IfOk-weaker c.lose_over.result _ _ (λ u h.
    told c.args.before.now (operator_of c.args.op.now) c.args.after.now (operator_of c.in-Some.back)
    c.args.loss c.args.losses.now c.lose_over.new.losses c.requires.after
    (inverse_of c.args.before.now (operator_of c.args.op.now) (operator_of c.in-Some.back)
    c.requires.valid c.requires.columns c.requires.accepted c.requires.inverse
    (sym (ap (option_map operator_of) c.in-Some.is) ∙ c.in_ok-back.ensures)) h) c.lose_over.ensures
