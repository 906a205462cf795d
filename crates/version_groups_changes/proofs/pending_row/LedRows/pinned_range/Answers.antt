use Rattle.std.proofs.Common.{◌≡◌, ◌<◌, ℕ, zero, suc, arith, Some, List, [], ◌∷◌, length, get_or}
use Rattle.std.proofs.Common.{refl, sym, ap, subst, ◌∙◌}
use Rattle.cond_expr.specs.declared.expr.CmpOp.TheVariants.{Eq}
use Rattle.cond_expr.specs.declared.expr.Column.{Column}
use Rattle.cond_expr.specs.PinnedParts.{pinned}
use Rattle.cond_expr.specs.Seen.{test}
use Rattle.version_groups_candidates.proofs.RangeLaws.{any_default}
use Rattle.version_groups_changes.proofs.pending_row.LedRows.pinned_range.Goals as goal

pub returns-clause-range : goal.returns-clause-range
returns-clause-range c =
    let t = test c.args.cond.now in
    let column = c.self.inside.column in
    let k : column < length c.atoms-columns.result.now = omega arith in
    rw (← c.self.view_is) (record {
      value = c.in-Some.value.now;
      within = subst (λ (cs : List Column). column < length cs) c.atoms-columns.ensures k;
      pins = λ d. sym (c.in-Some.ensures ∙ ap (λ (x : Column). pinned Eq x t)
          (c.index-columns-self.is ∙ any_default c.atoms-columns.result.now column _ d k
          ∙ ap (λ (cs : List Column). get_or cs column d) c.atoms-columns.ensures));
      is = rw (
        c.before-2.ensures,
        c.in_ok-one_value.ensures,
        c.after.ensures,
        c.in_ok-one_value-2.ensures,
      ) refl;
    })
