use Rattle.std.proofs.Common.{refl, None}
use Rattle.lexer_spec.specs.declared.scan_of.Scanned.TheVariants.{End, Bad, Open, Long, Big}
use Rattle.lexer.proofs.Steps.{ends_here}
use Rattle.lexer_spec.proofs.Shapes.{spaced}
use Rattle.lexer.proofs.token_list.tokens.Goals as goal

pub returns-in-End-clause-ok : goal.returns-in-End-clause-ok
returns-in-End-clause-ok c = ends_here c.args.text.now c.loop-out.out.items c.loop-out.at
    c.loop-out.rest.now c.gap-skipped.result End None c.loop-out.invariant.1
    c.gap-skipped.ensures.value c.in-End.ensures.value refl

pub returns-in-Bad-clause-err : goal.returns-in-Bad-clause-err
returns-in-Bad-clause-err c = let h = ends_here c.args.text.now c.loop-out.out.items c.loop-out.at
    c.loop-out.rest.now c.gap-skipped.result (Bad c.in-Bad.len) _ c.loop-out.invariant.1
    c.gap-skipped.ensures.value c.in-Bad.ensures.value refl in
    (_, h, spaced 0 c.args.text.now c.loop-out.out.items _ h)

pub returns-in-Open-clause-err : goal.returns-in-Open-clause-err
returns-in-Open-clause-err c = let h = ends_here c.args.text.now c.loop-out.out.items c.loop-out.at
    c.loop-out.rest.now c.gap-skipped.result Open _ c.loop-out.invariant.1
    c.gap-skipped.ensures.value c.in-Open.ensures.value refl in
    (_, h, spaced 0 c.args.text.now c.loop-out.out.items _ h)

pub returns-in-Long-clause-err : goal.returns-in-Long-clause-err
returns-in-Long-clause-err c = let h = ends_here c.args.text.now c.loop-out.out.items c.loop-out.at
    c.loop-out.rest.now c.gap-skipped.result Long _ c.loop-out.invariant.1
    c.gap-skipped.ensures.value c.in-Long.ensures.value refl in
    (_, h, spaced 0 c.args.text.now c.loop-out.out.items _ h)

pub returns-in-Big-clause-err : goal.returns-in-Big-clause-err
returns-in-Big-clause-err c = let h = ends_here c.args.text.now c.loop-out.out.items c.loop-out.at
    c.loop-out.rest.now c.gap-skipped.result Big _ c.loop-out.invariant.1
    c.gap-skipped.ensures.value c.in-Big.ensures.value refl in
    (_, h, spaced 0 c.args.text.now c.loop-out.out.items _ h)

pub returns-in-End-clause-spaced : goal.returns-in-End-clause-spaced
returns-in-End-clause-spaced c = spaced 0 c.args.text.now c.loop-out.out.items None
    (ends_here c.args.text.now c.loop-out.out.items c.loop-out.at c.loop-out.rest.now
    c.gap-skipped.result End None c.loop-out.invariant.1 c.gap-skipped.ensures.value
    c.in-End.ensures.value refl)
