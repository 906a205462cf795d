use Rattle.std.proofs.Common.{◌≡◌, ◌+◌, ◌++◌, ◌∙◌, List, sym, ap}
use Rattle.std.specs.Prelude.{◌||◌}
use Rattle.std.proofs.lemmas.Bool.{or_left}
use Rattle.cond_expr.specs.Trees.{Test}
use Rattle.cond_expr.specs.Seen.{test}
use Rattle.cond_expr.specs.Parts.{parts}
use Rattle.cond_expr_dead.specs.Earlier.{parts_before, some_kills}
use Rattle.cond_expr_dead.proofs.PartLists.{from, valid_more}
use Rattle.cond_expr_dead.proofs.PartSteps.{upto, kills_more}
use Rattle.cond_expr_dead.proofs.EarlierLaws.{members_before}
use Rattle.cond_expr_dead.proofs.condition.+parts.Goals as goal

pub some_kills_of-returns-then-some_kills-clause-value :
    goal.some_kills_of-returns-then-some_kills-clause-value
some_kills_of-returns-then-some_kills-clause-value t c =
    let all = parts (test c.args.whole.now) in
    let before = parts_before c.args.before.now in
    let cs = c.args.members.now in
    let k = c.loop-index.index in
    let member = c.index-members-index.result in
    let one : c.some_kills.result
    ≡ some_kills all (before ++ upto k cs) (parts (test member)) =
    c.some_kills.ensures.value
    ∙ ap (λ (b : List Test). some_kills all b (parts (test member))) (members_before _ _) in
    sym (c.loop-index.invariant.value
    ∙ kills_more all before cs k member c.loop-index-test.true c.index-members-index.is
    ∙ or_left (some_kills all (before ++ upto k cs) (parts (test member)))
    (some_kills all (before ++ upto (k + 1) cs) (from (k + 1) cs))
    (sym one ∙ c.if-some_kills.true))

pub some_kills_of-loop-index-preserved : goal.some_kills_of-loop-index-preserved
some_kills_of-loop-index-preserved t c =
    let all = parts (test c.args.whole.now) in
    let before = parts_before c.args.before.now in
    let cs = c.args.members.now in
    let k = c.loop-index.index in
    let member = c.index-members-index.result in
    let one : c.some_kills.result
    ≡ some_kills all (before ++ upto k cs) (parts (test member)) =
    c.some_kills.ensures.value
    ∙ ap (λ (b : List Test). some_kills all b (parts (test member))) (members_before _ _) in
    record {
      value = c.loop-index.invariant.value
          ∙ kills_more all before cs k member c.loop-index-test.true c.index-members-index.is
          ∙ ap (λ b. b || some_kills all (before ++ upto (k + 1) cs) (from (k + 1) cs))
          (sym one ∙ c.if-some_kills.false);
      valid = λ h. c.loop-index.invariant.valid
          (valid_more cs k member c.loop-index-test.true c.index-members-index.is
          (c.some_kills.ensures.valid c.if-some_kills.false) h);
    }
