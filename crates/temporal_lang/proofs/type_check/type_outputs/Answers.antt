use Rattle.std.proofs.Common.{◌≡◌, ◌∙◌, arith}
use Rattle.std.specs.Prelude.{Some}
use Rattle.cond_expr.specs.Seen.{tree}
use Rattle.cond_expr.specs.Sizes.{nodes_of}
use Rattle.cond_expr.specs.Kinds.{kinds_of, kind_of}
use Rattle.temporal_lang.proofs.TypingLaws.{outputs_stop, outputs_more, nodes_here, small_here}
use Rattle.temporal_lang.proofs.TypingLaws.{known_here, mapped_more}
use Rattle.temporal_lang.proofs.type_check.type_outputs.Goals as goal

pub type_expr-requires-clause-known : goal.type_expr-requires-clause-known
type_expr-requires-clause-known c =
    (known_here (kinds_of c.args.columns.now) c.args.outs.now c.loop-out.out-index c.out-item.result
    c.loop-out-test.true c.out-item.is c.loop-out.invariant.known).0

pub returns-in-Err : goal.returns-in-Err
returns-in-Err c =
    c.loop-out.invariant.faults
    ∙ outputs_stop (kinds_of c.args.columns.now) c.args.outs.now c.loop-out.out-index
    c.out-item.result c.loop-out-test.true c.out-item.is c.loop-out.next c.in-Err.place
    c.in-Err.ensures

pub loop-out-preserved : goal.loop-out-preserved
loop-out-preserved c =
    let of = kinds_of c.args.columns.now in
    let i = c.loop-out.out-index in
    let x = c.out-item.result in
    let small = small_here of c.args.outs.now i x c.loop-out-test.true c.out-item.is
    c.loop-out.invariant.small in
    let same : c.in-Ok.typed.nodes ≡ nodes_of (tree x) = c.in-Ok.ensures.1 in
    let before = c.loop-out.invariant.nodes in
    let here = nodes_here of c.args.outs.now i x c.loop-out-test.true c.out-item.is in
    record {
      faults = c.loop-out.invariant.faults
          ∙ outputs_more of c.args.outs.now i x c.loop-out-test.true c.out-item.is c.loop-out.next
          c.in-Ok.typed.nodes same c.in-Ok.ensures.2;
      nodes = omega (arith, before, here, same);
      kinds = mapped_more (kind_of of) tree Some c.args.outs.now i x c.loop-out-test.true
          c.out-item.is c.loop-out.kinds.items c.in-Ok.typed.kind _ _ c.in-Ok.ensures.0
          c.in_ok-push.ensures c.loop-out.invariant.kinds;
      small = small.1;
      known = (known_here of c.args.outs.now i x c.loop-out-test.true c.out-item.is
          c.loop-out.invariant.known).1;
    }
