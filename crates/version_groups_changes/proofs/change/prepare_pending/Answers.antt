use Rattle.std.proofs.Common.{◌≡◌, ◌+◌, ◌∙◌, sym, ap, subst, length, arith}
use Rattle.relations_spec.specs.Sets.{In}
use Rattle.prima_base.specs.Columns.{IsRelation}
use Rattle.history_store.specs.Change.{changed, rows_along}
use Rattle.history_store.specs.Store.{Store, AllBefore, relation_at}
use Rattle.smo_ops_spec.specs.Effects.{gained_rows}
use Rattle.smo_ops_spec.specs.Inserting.{relation_after_each}
use Rattle.smo_ops_spec.specs.OneRow.{Relation}
use Rattle.version_groups_changes.specs.Changing.{borrowed_changes}
use Rattle.version_groups_changes.proofs.Applying.{all_later, gains_new, kept_each}
use Rattle.version_groups_changes.proofs.Becoming.{same_relation, along_length}
use Rattle.version_groups_changes.proofs.Differences.{apart_relation, apart_in, leads_to}
use Rattle.version_groups_changes.proofs.change.prepare_pending.Goals as goal

pub prepare_change-requires-clause-lost : goal.prepare_change-requires-clause-lost
prepare_change-requires-clause-lost c =
    let s = c.args.store.now in
    let later : AllBefore s (c.args.stamp + 1) =
    all_later s c.args.stamp (c.args.stamp + 1) (omega arith) c.requires.before in
    let old = relation_at s c.args.stamp in
    let new = relation_after_each c.args.columns.now
    (borrowed_changes c.args.changes.now) old in
    let is : c.deref.result.now ≡ gained_rows new old = c.deref.ensures.value
    ∙ c.in_ok-lost.ensures.lost c.args.stamp c.requires.valid later in
    subst (IsRelation s.columns) (sym is) (apart_relation s.columns old new
    (c.rows_are_a_relation.ensures c.args.stamp c.requires.valid later))

pub prepare_change-requires-clause-gained : goal.prepare_change-requires-clause-gained
prepare_change-requires-clause-gained c =
    let s = c.args.store.now in
    let its = borrowed_changes c.args.changes.now in
    let later : AllBefore s (c.args.stamp + 1) =
    all_later s c.args.stamp (c.args.stamp + 1) (omega arith) c.requires.before in
    let old = relation_at s c.args.stamp in
    let new = relation_after_each c.args.columns.now its old in
    let is : c.in_ok-lost.gained.items ≡ gained_rows old new =
    c.in_ok-lost.ensures.gained c.args.stamp c.requires.valid later in
    let o : IsRelation c.args.columns.now old =
    subst (λ columns. IsRelation columns old) c.requires.same
    (c.rows_are_a_relation.ensures c.args.stamp c.requires.valid later) in
    let n = kept_each c.args.columns.now its old c.requires.columns c.requires.accepted o in
    subst (λ columns. IsRelation columns c.in_ok-lost.gained.items) (sym c.requires.same)
    (subst (IsRelation c.args.columns.now) (sym is)
    (apart_relation c.args.columns.now new old n))

pub prepare_change-requires-clause-there : goal.prepare_change-requires-clause-there
prepare_change-requires-clause-there c =
    let s = c.args.store.now in
    let later : AllBefore s (c.args.stamp + 1) =
    all_later s c.args.stamp (c.args.stamp + 1) (omega arith) c.requires.before in
    let old = relation_at s c.args.stamp in
    let new = relation_after_each c.args.columns.now
    (borrowed_changes c.args.changes.now) old in
    let is : c.deref.result.now ≡ gained_rows new old = c.deref.ensures.value
    ∙ c.in_ok-lost.ensures.lost c.args.stamp c.requires.valid later in
    λ row m. apart_in old new row (subst (In row) is m)

pub prepare_change-requires-clause-fresh : goal.prepare_change-requires-clause-fresh
prepare_change-requires-clause-fresh c =
    let s = c.args.store.now in
    let later : AllBefore s (c.args.stamp + 1) =
    all_later s c.args.stamp (c.args.stamp + 1) (omega arith) c.requires.before in
    let old = relation_at s c.args.stamp in
    let new = relation_after_each c.args.columns.now
    (borrowed_changes c.args.changes.now) old in
    let is : c.in_ok-lost.gained.items ≡ gained_rows old new =
    c.in_ok-lost.ensures.gained c.args.stamp c.requires.valid later in
    λ row m. gains_new old new row (subst (In row) is m)

pub returns-clause-change : goal.returns-clause-change
returns-clause-change c =
    let s = c.args.store.now in
    let its = borrowed_changes c.args.changes.now in
    let later : AllBefore s (c.args.stamp + 1) =
    all_later s c.args.stamp (c.args.stamp + 1) (omega arith) c.requires.before in
    let old = relation_at s c.args.stamp in
    let new = relation_after_each c.args.columns.now its old in
    let lost : c.deref.result.now ≡ gained_rows new old = c.deref.ensures.value
    ∙ c.in_ok-lost.ensures.lost c.args.stamp c.requires.valid later in
    let gained : c.in_ok-lost.gained.items ≡ gained_rows old new =
    c.in_ok-lost.ensures.gained c.args.stamp c.requires.valid later in
    let o : IsRelation c.args.columns.now old =
    subst (λ columns. IsRelation columns old) c.requires.same
    (c.rows_are_a_relation.ensures c.args.stamp c.requires.valid later) in
    let readied = c.prepare_change.new.self in
    let still : relation_at readied c.args.stamp ≡ old =
    same_relation s readied readied.spare s.indexed c.prepare_change.ensures.same
    c.args.stamp in
    record {
      at = c.in_ok-prepared.ensures.stamp;
      fits = c.in_ok-prepared.ensures.fits;
      room = c.in_ok-prepared.ensures.room;
      leads = c.in_ok-prepared.ensures.leads ∙ ap
          (λ (rows : Relation). changed old rows c.in_ok-lost.gained.items) lost
          ∙ ap (changed old (gained_rows new old)) gained
          ∙ leads_to c.args.columns.now old new
          (kept_each c.args.columns.now its old c.requires.columns c.requires.accepted o);
      lost = ap (λ (u : Store). rows_along c.in_ok-prepared.prepared.lost c.args.stamp u.cells)
          c.prepare_change.ensures.same ∙ c.in_ok-prepared.ensures.lost ∙ lost
          ∙ ap (gained_rows new) (sym still);
      gained = c.in_ok-prepared.ensures.gained ∙ gained
          ∙ ap (λ (rows : Relation). gained_rows rows new) (sym still);
    }

pub returns-clause-gained : goal.returns-clause-gained
returns-clause-gained c =
    let s = c.args.store.now in
    let later : AllBefore s (c.args.stamp + 1) =
    all_later s c.args.stamp (c.args.stamp + 1) (omega arith) c.requires.before in
    ap length (c.in_ok-prepared.ensures.gained
    ∙ c.in_ok-lost.ensures.gained c.args.stamp c.requires.valid later)

pub returns-clause-lost : goal.returns-clause-lost
returns-clause-lost c =
    let s = c.args.store.now in
    let later : AllBefore s (c.args.stamp + 1) =
    all_later s c.args.stamp (c.args.stamp + 1) (omega arith) c.requires.before in
    sym (along_length c.in_ok-prepared.prepared.lost c.args.stamp s.cells)
    ∙ ap length (c.in_ok-prepared.ensures.lost ∙ c.deref.ensures.value
    ∙ c.in_ok-lost.ensures.lost c.args.stamp c.requires.valid later)
