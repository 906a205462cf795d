use Rattle.std.proofs.Common.{[], ◌∷◌, ◌++◌, sym, ap, ◌∙◌}
use Rattle.cond_expr.specs.Seen.{tree, test}
use Rattle.cond_expr.proofs.SeenLaws.{tree_of_concat, tree_of_case, test_of_and, test_of_or}
use Rattle.command_codec_spec.specs.Encoding.{tree_bytes, test_bytes}
use Rattle.command_codec_writer.proofs.After.{one_more, conds_written, exprs_written, three_more}
use Rattle.command_codec_writer.proofs.After.{test_of_not}
use Rattle.command_codec_writer.proofs.tree_writer.+writes.Goals as goal

pub write_cond-returns-in_ok-write_conds-in-And-clause-ok :
    goal.write_cond-returns-in_ok-write_conds-in-And-clause-ok
write_cond-returns-in_ok-write_conds-in-And-clause-ok t c =
    conds_written c.args.out.now.items c.put_long_count.new.out.items c.write_conds.new.out.items 3
    c.len.result _ c.deref-in-And.result.now c.in-And.parts.items c.len.ensures
    c.deref-in-And.ensures.len c.deref-in-And.ensures.value
    c.in_ok-put_long_count-in-And.ensures c.in_ok-write_conds-in-And.ensures.ok
    ∙ ap (λ x. c.args.out.now.items ++ test_bytes x)
    (sym (test_of_and c.in-And.parts) ∙ ap test (sym c.in-And.is))

pub write_cond-returns-in_ok-write_conds-in-Or-clause-ok :
    goal.write_cond-returns-in_ok-write_conds-in-Or-clause-ok
write_cond-returns-in_ok-write_conds-in-Or-clause-ok t c =
    conds_written c.args.out.now.items c.put_long_count-in-Or.new.out.items
    c.write_conds-in-Or.new.out.items 4 c.len-in-Or.result _ c.deref-in-Or.result.now
    c.in-Or.parts.items c.len-in-Or.ensures c.deref-in-Or.ensures.len
    c.deref-in-Or.ensures.value c.in_ok-put_long_count-in-Or.ensures
    c.in_ok-write_conds-in-Or.ensures.ok
    ∙ ap (λ x. c.args.out.now.items ++ test_bytes x)
    (sym (test_of_or c.in-Or.parts) ∙ ap test (sym c.in-Or.is))

pub write_cond-returns-in_ok-write_cond-in-Not-clause-ok :
    goal.write_cond-returns-in_ok-write_cond-in-Not-clause-ok
write_cond-returns-in_ok-write_cond-in-Not-clause-ok t c =
    one_more c.args.out.now.items c.put-in-Not.new.out.items c.write_cond.new.out.items (5 ∷ [])
    (test_bytes (test c.in-Not.part.value)) c.in_ok-put-in-Not.ensures.ok
    (c.in_ok-write_cond-in-Not.ensures.ok
    ∙ ap (λ x. c.put-in-Not.new.out.items ++ test_bytes (test x)) c.deref-in-Not.ensures)
    ∙ ap (λ x. c.args.out.now.items ++ test_bytes x)
    (sym (test_of_not c.in-Not.part) ∙ ap test (sym c.in-Not.is))

pub write_expr-returns-in_ok-write_exprs-in-Concat-clause-ok :
    goal.write_expr-returns-in_ok-write_exprs-in-Concat-clause-ok
write_expr-returns-in_ok-write_exprs-in-Concat-clause-ok t c =
    exprs_written c.args.out.now.items c.put_count.new.out.items c.write_exprs.new.out.items 3
    c.len.result _ c.deref-in-Concat.result.now c.in-Concat.parts.items c.len.ensures
    c.deref-in-Concat.ensures.len c.deref-in-Concat.ensures.value
    c.in_ok-put_count-in-Concat.ensures c.in_ok-write_exprs-in-Concat.ensures.ok
    ∙ ap (λ x. c.args.out.now.items ++ tree_bytes x)
    (sym (tree_of_concat c.in-Concat.parts) ∙ ap tree (sym c.in-Concat.is))

pub write_expr-returns-in_ok-write_expr-in-Case-2-clause-ok :
    goal.write_expr-returns-in_ok-write_expr-in-Case-2-clause-ok
write_expr-returns-in_ok-write_expr-in-Case-2-clause-ok t c =
    three_more c.args.out.now.items c.put-in-Case.new.out.items c.write_cond.new.out.items
    c.write_expr-in-Case.new.out.items c.write_expr-in-Case-2.new.out.items (4 ∷ [])
    (test_bytes (test c.in-Case.cond.value)) (tree_bytes (tree c.in-Case.first.value))
    (tree_bytes (tree c.in-Case.second.value))
    c.in_ok-put-in-Case.ensures.ok
    (c.in_ok-write_cond-in-Case.ensures.ok ∙ ap
    (λ x. c.put-in-Case.new.out.items ++ test_bytes (test x)) c.deref-in-Case.ensures)
    (c.in_ok-write_expr-in-Case.ensures.ok ∙ ap
    (λ x. c.write_cond.new.out.items ++ tree_bytes (tree x)) c.deref-in-Case-2.ensures)
    (c.in_ok-write_expr-in-Case-2.ensures.ok ∙ ap
    (λ x. c.write_expr-in-Case.new.out.items ++ tree_bytes (tree x)) c.deref-in-Case-3.ensures)
    ∙ ap (λ x. c.args.out.now.items ++ tree_bytes x)
    (sym (tree_of_case c.in-Case.cond c.in-Case.first c.in-Case.second)
    ∙ ap tree (sym c.in-Case.is))
