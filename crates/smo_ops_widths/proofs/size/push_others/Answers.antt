use Rattle.std.proofs.Common.{◌++◌, ℕ, List, sym, ap, ◌∙◌}
use Rattle.smo_ops_spec.specs.Preconditions.{among}
use Rattle.smo_ops_spec.specs.Checks.{pair_names}
use Rattle.smo_ops_widths.proofs.SizeLaws.{left_out, put_on}
use Rattle.smo_ops_widths.proofs.size.push_others.Goals.{then-not-has_name+in_ok-copy+in_ok-push}
use Rattle.smo_ops_widths.proofs.size.push_others.Goals.{else-not-has_name}
use Rattle.smo_ops_widths.proofs.size.push_others.Goals as goal

pub loop-name-preserved : goal.loop-name-preserved
loop-name-preserved c =
    let others = c.args.others.now in
    let old = c.args.into.now.items ++ c.args.others.now in
    let i = c.loop-name.name-index in
    let x = c.loop-name-item.result in
    elim c.if-not-has_name.branch [
      | then-not-has_name+in_ok-copy+in_ok-push w ↦
          rw w.into-is (put_on c.loop-name.into.items others
          old i x c.loop-name-test.true c.loop-name-item.is c.loop-name.invariant _
          w.in_ok-copy.field-0 w.in_ok-copy.ensures w.in_ok-push.ensures.items)
      | else-not-has_name w ↦ rw w.into-is (left_out c.loop-name.into.items others old i x
          c.loop-name-test.true c.loop-name-item.is c.loop-name.invariant
          (sym (c.has_name.ensures ∙ ap (λ (l : List (List ℕ × ℕ)). among x.0 (pair_names l))
          c.deref.ensures.value) ∙ w.if-not-has_name.false))
    ]
