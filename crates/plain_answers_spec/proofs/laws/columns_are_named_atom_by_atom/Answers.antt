use Rattle.std.specs.List.{filter}
use Rattle.relations_spec.proofs.SetLaws.{set_ascends}
use Rattle.prima_base.specs.Order.{bytes_cmp}
use Rattle.prima_base.specs.OrderLaws.{bytes_exact}
use Rattle.plain_answers_spec.specs.Naming.{is_to, written_names}
use Rattle.plain_answers_spec.proofs.NameLaws.{in_names_at, from_names_at}
use Rattle.plain_answers_spec.proofs.laws.columns_are_named_atom_by_atom.Goals as goal

pub returns-clause-members : goal.returns-clause-members
returns-clause-members c = λ i references name.
    (from_names_at i references name, in_names_at i references name)

pub returns-clause-ascends : goal.returns-clause-ascends
returns-clause-ascends c = λ i references. set_ascends bytes_cmp bytes_exact
    (written_names (filter (is_to i) references))
