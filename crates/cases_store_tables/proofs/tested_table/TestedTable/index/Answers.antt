use Rattle.std.proofs.Common.{ap, ◌∙◌}
use Rattle.cases_store_tables.proofs.TestedLaws.{same_before}
use Rattle.cases_store_tables.proofs.tested_table.TestedTable.index.Goals as goal

pub invariant_of-self : goal.invariant_of-self
invariant_of-self c = (
  ap (λ s. s.columns) c.index_column.ensures.same ∙ c.self.invariant.0,
  λ m l. same_before c.self.inside.stored c.index_column.new.self m
      (ap (λ s. s.keys) c.index_column.ensures.same) (ap (λ s. s.cells) c.index_column.ensures.same)
      (c.self.invariant.1 m l),
)

pub invariant_of-self-2 : goal.invariant_of-self-2
invariant_of-self-2 c = (
  ap (λ s. s.columns) c.index_column.ensures.same ∙ c.self.invariant.0,
  λ m l. same_before c.self.inside.stored c.index_column.new.self m
      (ap (λ s. s.keys) c.index_column.ensures.same) (ap (λ s. s.cells) c.index_column.ensures.same)
      (c.self.invariant.1 m l),
)
