use Rattle.std.proofs.Common.{◌≡◌, true, false, List, sym, ap, subst, ◌∙◌}
use Rattle.std.specs.Map.{keys_of}
use Rattle.relations_spec.specs.Sets.{In}
use Rattle.relations_spec.proofs.SetLaws.{has_in}
use Rattle.prima_base.specs.Order.{row_cmp}
use Rattle.prima_base.specs.OrderLaws.{row_exact}
use Rattle.prima_base.specs.Columns.{IsRow, IsRelation}
use Rattle.cond_expr.specs.declared.expr.Column.{Column}
use Rattle.cond_expr.specs.AtomColumns.{columns_at}
use Rattle.cond_expr.specs.Seen.{test}
use Rattle.history_store.specs.Cuts.{Cut, is_before}
use Rattle.history_store.specs.Store.{relation_at}
use Rattle.smo_ops_spec.specs.OneRow.{Row, Relation, meets}
use Rattle.version_groups_changes.specs.PendingChanges.{AreHits, CanBeHits}
use Rattle.version_groups_candidates.specs.Ranges.{low_cut, high_cut}
use Rattle.version_groups_changes.proofs.PendingLaws.{as_ascends, has_now, hits_are}
use Rattle.version_groups_changes.proofs.pending_changes.find_hits_counted.Goals as goal

pub returns : goal.returns
returns g c = λ m now l h r e.
    let its = c.args.own.now in
    let t = test c.args.cond.now in
    let stored = relation_at c.args.store.now m in
    let known = c.args.pending.now in
    let from_is : c.in_ok-from.from ≡ low_cut (columns_at 0 its) t = c.in_ok-from.ensures
    ∙ ap (λ (cs : List Column). low_cut cs t) c.atoms.ensures in
    let to_is : c.in_ok-to.to ≡ high_cut (columns_at 0 its) t = c.in_ok-to.ensures
    ∙ ap (λ (cs : List Column). high_cut cs t) c.atoms-2.ensures in
    let ordered = as_ascends (keys_of known) c.in_ok-hits.ensures.ordered in
    let there : (row : Row) → In (row, true) known
    → IsRow its row = λ row i. r.fitting row
    (has_in row_cmp row_exact row now (has_now known stored now ordered e row true i)) in
    let can : CanBeHits its t c.in_ok-from.from c.in_ok-to.to known = record {
      low = λ row i p. subst (λ (k : Cut). is_before k row ≡ false) (sym from_is)
          (c.hits_are_between_the_cuts.ensures.low its t row c.requires.columns (there row i) p);
      high = λ row i p. subst (λ (k : Cut). is_before k row ≡ true) (sym to_is)
          (c.hits_are_between_the_cuts.ensures.high its t row c.requires.columns (there row i) p);
      pinned_to = λ row k v i p b d. c.hits_have_pinned_values.ensures its t row k v
          c.requires.columns (there row i) p b d;
    } in
    let o : IsRelation its stored = subst (λ columns. IsRelation columns stored) c.requires.same
    (c.rows_are_a_relation.ensures m l h) in
    let fits : (row : Row) → In row c.lend_rows-rows.result
    → IsRow its row = λ row i. o.fitting row ((c.lend_rows-rows.ensures m l h).only row i) in
    subst (λ (hs : Relation). AreHits (meets its t) now hs)
    (sym (c.in_ok-put_stored_hits.ensures fits))
    (hits_are known stored now ordered e (meets its t) c.lend_rows-rows.result
    (c.lend_rows-rows.ensures m l h) c.in_ok-hits.hits.items (c.in_ok-hits.ensures.hits can))
