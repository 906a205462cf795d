use Rattle.std.proofs.Common.{◌≡◌, ◌∙◌, ◌<◌, ℕ, ap, Bool, true, List}
use Rattle.std.proofs.Common.{[], ◌∷◌, length, get_or, refl, sym, subst}
use Rattle.std.proofs.lemmas.Cmp.{tied_itself}
use Rattle.relations_spec.specs.Sets.{In}
use Rattle.relations_spec.proofs.SetLaws.{in_filter, from_filter, in_set, from_set}
use Rattle.prima_base.specs.Order.{row_cmp}
use Rattle.prima_base.specs.OrderLaws.{row_exact, value_total}
use Rattle.prima_base.specs.declared.value.Value.{Value}
use Rattle.prima_base.specs.Columns.{IsRelation}
use Rattle.cond_expr.specs.declared.expr.CmpOp.TheVariants.{Eq}
use Rattle.cond_expr.specs.declared.expr.Column.{Column}
use Rattle.cond_expr.specs.PinnedParts.{pinned}
use Rattle.cond_expr.specs.Seen.{test}
use Rattle.history_store.specs.Store.{Store, rows_from, relation_at}
use Rattle.history_store.specs.Handing.{is_value, at_column}
use Rattle.history_store.specs.ByValue.{rows_with}
use Rattle.smo_ops_spec.specs.OneRow.{Row, Relation, meets}
use Rattle.version_groups_candidates.specs.Candidates.{HaveHits}
use Rattle.version_groups_candidates.proofs.RangeLaws.{any_default}
use Rattle.version_groups_candidates.proofs.candidate.fewer_rows.Goals as goal

-- the rows that have the value are among those that are stored, and all that meet the condition
-- have it
value_has_hits : (passes : Row → Bool) (s : Store) (m k : ℕ) (v : Value)
    → ((row : Row) → In row (relation_at s m) → passes row ≡ true → at_column k row ≡ v ∷ [])
    → HaveHits passes (relation_at s m) (rows_with k v (rows_from 0 m s.keys s.cells))
unfolding relation_at
value_has_hits passes s m k v pins = record {
  only = λ row i. in_set row_cmp row_exact row (rows_from 0 m s.keys s.cells)
      (from_filter (λ r. is_value v (at_column k r)) row (rows_from 0 m s.keys s.cells) i).0;
  all = λ row i p. in_filter (λ r. is_value v (at_column k r)) row (rows_from 0 m s.keys s.cells)
      (from_set row_cmp row_exact row (rows_from 0 m s.keys s.cells) i)
      (rw (pins row i p, tied_itself value_total v) refl);
}

pub returns-then-len : goal.returns-then-len
returns-then-len c = λ m l h r.
    let its = c.args.own.now in
    let t = test c.args.cond.now in
    let stored = relation_at c.args.store.now m in
    let o : IsRelation its stored = subst (λ columns. IsRelation columns stored) c.requires.same
    (c.rows_are_a_relation.ensures m l h) in
    let k = subst (λ (cs : List Column). c.args.column < length cs) (sym c.atoms.ensures)
    c.requires.within in
    let e = λ (d : Column). sym (c.in-Some.ensures
    ∙ ap (λ (x : Column). pinned Eq x t) (c.index-atoms-column.is
    ∙ any_default c.atoms.result.now c.args.column _ d k
    ∙ ap (λ (cs : List Column). get_or cs c.args.column d) c.atoms.ensures)) in
    subst (λ (rows : Relation). HaveHits (meets its t) stored rows)
    (sym (c.in-Some-rows_with.ensures.rows m l h))
    (value_has_hits (meets its t) c.args.store.now m c.args.column c.in-Some.value.now
    (λ row i p. c.hits_have_pinned_values.ensures its t row c.args.column c.in-Some.value.now
    c.requires.columns (o.fitting row i) p c.requires.within e))
