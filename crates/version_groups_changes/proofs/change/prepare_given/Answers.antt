use Rattle.std.proofs.Common.{◌≡◌, ◌∙◌, ◌++◌, sym, ap, subst, length}
use Rattle.relations_spec.specs.Sets.{set_of}
use Rattle.prima_base.specs.Order.{row_cmp}
use Rattle.prima_base.specs.Columns.{IsRelation}
use Rattle.history_store.specs.Change.{rows_along}
use Rattle.history_store.specs.Store.{relation_at}
use Rattle.smo_ops_spec.specs.Effects.{gained_rows}
use Rattle.smo_ops_spec.specs.OneRow.{Relation}
use Rattle.version_groups_changes.proofs.Applying.{gains_all, gains_are, gains_only, none_lost}
use Rattle.version_groups_changes.proofs.Becoming.{same_relation, added}
use Rattle.version_groups_changes.proofs.change.prepare_given.Goals as goal

pub prepare_union-requires-clause-relation : goal.prepare_union-requires-clause-relation
prepare_union-requires-clause-relation c = subst (IsRelation c.args.store.now.columns)
    (sym c.make_set.ensures) c.requires.relation

pub returns-clause-change : goal.returns-clause-change
returns-clause-change c =
    let s = c.args.store.now in
    let old = relation_at s c.args.stamp in
    let rows = c.args.rows.items in
    let new = c.prepare_union.new.self in
    let p = c.in_ok-prepared.prepared in
    let still : relation_at new c.args.stamp ≡ old =
    same_relation s new new.spare s.indexed c.prepare_union.ensures.same c.args.stamp in
    let gained : p.gained ≡ gained_rows old (set_of row_cmp rows) = c.in_ok-prepared.ensures.gained
    ∙ gains_only _ old ∙ ap (gained_rows old) c.make_set.ensures in
    record {
      at = c.in_ok-prepared.ensures.stamp;
      fits = c.in_ok-prepared.ensures.fits;
      room = c.in_ok-prepared.ensures.room;
      leads = c.in_ok-prepared.ensures.leads ∙ added old p.gained
          ∙ ap (λ l. set_of row_cmp (old ++ l)) gained ∙ gains_all old rows;
      lost = ap (λ ids. rows_along ids c.args.stamp new.cells) c.in_ok-prepared.ensures.lost
          ∙ sym (none_lost old rows) ∙ ap (gained_rows (set_of row_cmp (old ++ rows))) (sym still);
      gained = gained ∙ sym (gains_are old rows)
          ∙ ap (λ (now : Relation). gained_rows now (set_of row_cmp (old ++ rows))) (sym still);
    }

pub returns-clause-gained : goal.returns-clause-gained
returns-clause-gained c =
    let old = relation_at c.args.store.now c.args.stamp in
    ap length (c.in_ok-prepared.ensures.gained ∙ gains_only _ old
    ∙ ap (gained_rows old) c.make_set.ensures ∙ sym (gains_are old c.args.rows.items))

pub returns-clause-lost : goal.returns-clause-lost
returns-clause-lost c =
    let old = relation_at c.args.store.now c.args.stamp in
    ap length c.in_ok-prepared.ensures.lost ∙ sym (ap length (none_lost old c.args.rows.items))
