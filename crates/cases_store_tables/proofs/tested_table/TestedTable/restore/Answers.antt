use Rattle.std.proofs.Common.{◌≡◌, sym, ap, subst, ◌∙◌}
use Rattle.std.specs.Prelude.{IfSome, Option}
use Rattle.history_store.specs.Store.{Store, AllBefore}
use Rattle.cases_store_tables.proofs.tested_table.TestedTable.restore.Goals as goal

pub invariant_of-self : goal.invariant_of-self
invariant_of-self c = (
  subst (λ (o : Option Store). IfSome o (λ t. t.columns ≡ c.args.self.now.columns)) c.in-Some.is
      c.in_ok-restored.ensures.same ∙ sym (ap (λ (s : Store). s.columns) c.self.view_is)
      ∙ c.self.invariant.0,
  λ m l. subst (λ (o : Option Store). IfSome o (λ t. AllBefore t m)) c.in-Some.is
      (c.in_ok-restored.ensures.later m (subst (λ (s : Store). AllBefore s m) c.self.view_is
      (c.self.invariant.1 m l))),
)
