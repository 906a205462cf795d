use Rattle.std.proofs.Common.{sym, ap, ◌∙◌}
use Rattle.relations_spec.proofs.SetLaws.{set_itself}
use Rattle.prima_base.specs.Order.{row_cmp}
use Rattle.prima_base.specs.OrderLaws.{row_exact}
use Rattle.smo_ops_spec.specs.Inserting.{relation_after_each}
use Rattle.smo_ops_spec.proofs.Insertions.{union_of_insertions}
use Rattle.smo_ops_spec.proofs.laws.insertions_are_a_union.Goals as goal

pub returns : goal.returns
returns c = record {
  relation = λ columns changes given rows a e.
      ap (relation_after_each columns changes) (sym (set_itself row_cmp row_exact rows a))
      ∙ union_of_insertions columns changes given rows e;
  listed = union_of_insertions;
}
