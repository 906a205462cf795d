use Rattle.std.proofs.Common.{◌≡◌, ◌<◌, ℕ, true, false, List, [], ◌∷◌, ◌++◌, map, length, get_or}
use Rattle.std.proofs.Common.{take, append_assoc, refl, sym, ap, subst, ◌∙◌}
use Rattle.std.specs.Prelude.{◌&&◌, if◌then◌else◌}
use Rattle.std.specs.List.{filter}
use Rattle.prima_base.specs.declared.value.Val.{Val}
use Rattle.prima_base.specs.Order.{shown}
use Rattle.cond_expr.specs.declared.expr.Column.{Column}
use Rattle.cond_expr.specs.AtomColumns.{columns_at}
use Rattle.cond_expr.specs.Rows.{AreValid}
use Rattle.cond_expr.specs.Seen.{test}
use Rattle.smo_ops_spec.specs.OneRow.{Row, Relation, meets}
use Rattle.version_groups_candidates.specs.Filters.{ColumnTest, passes, IsFilter}
use Rattle.version_groups_changes.specs.PendingChanges.{is_kept}
use Rattle.version_groups_changes.proofs.PendingSteps.{fails_too, passed_over}
use Rattle.version_groups_changes.proofs.PendingSteps.{all_valid, passed_more, in_get, no_first}
use Rattle.version_groups_changes.proofs.pending_changes.put_stored_hits.Goals as goal

pub put_stored-requires : goal.put_stored-requires
put_stored-requires g c = subst (λ (vs : List Val). AreValid vs)
    (sym c.deref-in-loop-at.ensures.value) (all_valid c.lend.new.row.items
    c.in_ok-lend.ensures.valid)

-- a row that fails a test does not meet the condition
pub loop-at-preserved-then-not-passes : goal.loop-at-preserved-then-not-passes
loop-at-preserved-then-not-passes g c =
    let its = c.args.own.now in
    let t = test c.args.cond.now in
    let rows = c.args.rows.now in
    let row : Row = get_or rows c.loop-at.at [] in
    let within : c.loop-at.at < length rows =
    subst (λ (n : ℕ). c.loop-at.at < n) c.len-at-end.ensures c.loop-at-test.true in
    let made : IsFilter (columns_at 0 its) t c.deref.result.now =
    subst (λ (fs : List ColumnTest). IsFilter (columns_at 0 its) t fs) (sym c.deref.ensures.value)
    (subst (λ (cs : List Column). IsFilter cs t c.in_ok-tests.tests.items) c.atoms.ensures
    c.in_ok-tests.ensures) in
    let failed : passes c.deref.result.now row ≡ false =
    ap (λ (r : Relation). passes c.deref.result.now (get_or r c.loop-at.at []))
    (sym c.loop-at.invariant.same) ∙ sym c.passes.ensures.passes ∙ c.if-not-passes.true in
    record {
      same = c.passes.ensures.same ∙ c.loop-at.invariant.same;
      hits = λ fits.
          let none : meets its t row ≡ false =
          fails_too (meets its t row) (passes c.deref.result.now row)
          (λ m. c.hits_pass_filters.ensures its t c.deref.result.now row c.requires.columns
          (fits row (in_get rows c.loop-at.at [] within)) m made) failed in
          c.loop-at.invariant.hits fits
          ∙ ap (λ (hs : Relation). c.args.hits.now.items ++ hs)
          (sym (passed_over (λ r. meets its t r && is_kept c.args.pending.now r) rows c.loop-at.at
          row within refl (no_first (meets its t row) (is_kept c.args.pending.now row) none)));
    }

pub loop-at-preserved : goal.loop-at-preserved
loop-at-preserved g c =
    let rows = c.args.rows.now in
    let row = map shown c.deref-in-loop-at.result.now in
    let same = c.passes.ensures.same ∙ c.loop-at.invariant.same in
    let within : c.loop-at.at < length rows =
    subst (λ (n : ℕ). c.loop-at.at < n) c.len-at-end.ensures c.loop-at-test.true in
    let borrowed : map shown c.lend.new.row.items ≡ get_or rows c.loop-at.at [] =
    c.in_ok-lend.ensures.values ∙ ap (λ (r : Relation). get_or r c.loop-at.at []) same in
    record {
      same = c.in_ok-lend.ensures.same ∙ same;
      hits = λ fits. c.in_ok-put_stored.ensures
          ∙ ap (λ (hs : Relation). hs ++ (if meets c.args.own.now (test c.args.cond.now) row
          && is_kept c.args.pending.now row then row ∷ [] else []))
          (c.loop-at.invariant.hits fits)
          ∙ append_assoc c.args.hits.now.items
          (filter (λ r. meets c.args.own.now (test c.args.cond.now) r
          && is_kept c.args.pending.now r) (take c.loop-at.at rows))
          (if meets c.args.own.now (test c.args.cond.now) row && is_kept c.args.pending.now row
          then row ∷ [] else [])
          ∙ ap (λ (hs : Relation). c.args.hits.now.items ++ hs)
          (sym (passed_more (λ r. meets c.args.own.now (test c.args.cond.now) r
          && is_kept c.args.pending.now r) rows c.loop-at.at row within
          (ap (map shown) c.deref-in-loop-at.ensures.value ∙ borrowed)));
    }
