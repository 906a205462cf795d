use Rattle.std.proofs.Common.{◌≡◌, true, false, sym, subst}
use Rattle.prima_base.specs.Columns.{IsRelation}
use Rattle.cond_expr.specs.Seen.{test}
use Rattle.history_store.specs.Cuts.{Cut, is_before}
use Rattle.history_store.specs.Store.{relation_at}
use Rattle.smo_ops_spec.specs.OneRow.{Relation, meets}
use Rattle.version_groups_candidates.specs.Candidates.{HaveHits}
use Rattle.version_groups_candidates.proofs.BetweenCuts.{between_has_hits}
use Rattle.version_groups_candidates.proofs.candidate.lend_rows.Goals as goal

pub loop-column-init : goal.loop-column-init
loop-column-init c = λ m l h.
    let its = c.args.own.now in
    let t = test c.args.cond.now in
    let stored = relation_at c.args.store.now m in
    let o : IsRelation its stored = subst (λ columns. IsRelation columns stored) c.requires.same
    (c.rows_are_a_relation.ensures m l h) in
    subst (λ (rows : Relation). HaveHits (meets its t) stored rows)
    (sym (c.between-rows.ensures.rows m l h))
    (between_has_hits (meets its t) c.args.from.now c.args.to.now stored
    (λ row i p. (
      subst (λ (k : Cut). is_before k row ≡ false) (sym c.requires.from)
          (c.hits_are_between_the_cuts.ensures.low its t row c.requires.columns (o.fitting row i)
          p),
      subst (λ (k : Cut). is_before k row ≡ true) (sym c.requires.to)
          (c.hits_are_between_the_cuts.ensures.high its t row c.requires.columns (o.fitting row i)
          p),
    )))
