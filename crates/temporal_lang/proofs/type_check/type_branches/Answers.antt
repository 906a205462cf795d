use Rattle.std.proofs.Common.{◌∙◌, map, sym, arith}
use Rattle.std.specs.Prelude.{Some}
use Rattle.prima_base.specs.declared.value.ColType.{ColType}
use Rattle.std.specs.declared.vec.Vec.{Vec}
use Rattle.std.specs.declared.alloc.Global.{Global}
use Rattle.std.proofs.lemmas.Result.{err_from_is_err_and}
use Rattle.temporal_lang_types.specs.Branches.{branch_of, branches_of}
use Rattle.temporal_lang_spec.specs.Atoms.{atom_kinds}
use Rattle.temporal_lang_spec.specs.Checking.{output_kinds}
use Rattle.temporal_lang.proofs.TypingLaws.{branch_few, mapped_more}
use Rattle.temporal_lang.proofs.BranchTypeLaws.{small_at, few_after, known_at, types_stop}
use Rattle.temporal_lang.proofs.BranchTypeLaws.{types_more, branches_stop}
use Rattle.temporal_lang.proofs.type_check.type_branches.Goals as goal

pub type_branch-requires-clause-room : goal.type_branch-requires-clause-room
type_branch-requires-clause-room c =
    let x = c.branch-item.result in
    let few = branch_few (branch_of x) (small_at c.args.schema.now c.args.branches.now
    c.loop-branch.branch-index x c.loop-branch-test.true c.branch-item.is
    c.loop-branch.invariant.small).0 in
    let so_far = c.loop-branch.invariant.nodes in
    let below = c.loop-branch-test.true in
    let count = c.requires.count in
    omega (arith, few, so_far, below, count)

pub type_branch-requires-clause-known : goal.type_branch-requires-clause-known
type_branch-requires-clause-known c =
    (known_at c.args.schema.now c.args.branches.now c.loop-branch.branch-index c.branch-item.result
    c.loop-branch-test.true c.branch-item.is c.loop-branch.invariant.known).0

pub returns-in_err-typed : goal.returns-in_err-typed
returns-in_err-typed c =
    let p = err_from_is_err_and c.from_residual-in_err-typed.result
    c.from_residual-in_err-typed.ensures.1 in
    let x = c.branch-item.result in
    rw (p.1, p.2)
    (branches_stop c.args.schema.now (branches_of c.args.branches.now)
    (atom_kinds c.args.schema.now x.from.items) c.loop-branch.at (branch_of x)
    c.in_err-typed.field-0.0
    (λ r h. c.loop-branch.invariant.faults
    ∙ types_stop c.args.schema.now c.args.branches.now c.loop-branch.branch-index x
    c.loop-branch-test.true c.branch-item.is c.loop-branch.at r h)
    c.in_err-typed.ensures)

pub loop-branch-preserved : goal.loop-branch-preserved
loop-branch-preserved c =
    let tables = c.args.schema.now in
    let xs = c.args.branches.now in
    let i = c.loop-branch.branch-index in
    let x = c.branch-item.result in
    let small = small_at tables xs i x c.loop-branch-test.true c.branch-item.is
    c.loop-branch.invariant.small in
    let few = branch_few (branch_of x) small.0 in
    let so_far = c.loop-branch.invariant.nodes in
    let typed = c.in_ok-typed.ensures in
    let next = typed.1.1 in
    record {
      faults = c.loop-branch.invariant.faults
          ∙ types_more tables xs i x c.loop-branch-test.true c.branch-item.is c.loop-branch.at
          c.in_ok-typed.typed.next typed.0 next;
      nodes = omega (arith, few, so_far, next);
      kinds = mapped_more (output_kinds tables) branch_of
          (λ (v : Vec ColType Global). map Some v.items) xs i x c.loop-branch-test.true
          c.branch-item.is
          c.loop-branch.kinds.items c.in_ok-typed.typed.kinds _ _ (sym typed.1.0)
          c.in_ok-push.ensures c.loop-branch.invariant.kinds;
      few = few_after tables xs i x c.loop-branch-test.true c.branch-item.is
          c.loop-branch.invariant.few;
      small = small.1;
      known = (known_at tables xs i x c.loop-branch-test.true c.branch-item.is
          c.loop-branch.invariant.known).1;
    }
