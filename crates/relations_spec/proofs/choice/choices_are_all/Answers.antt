use Rattle.relations_spec.proofs.ChoiceLaws.{in_choices, from_choices}
use Rattle.relations_spec.proofs.choice.choices_are_all.Goals as goal

pub returns : goal.returns
returns g c = λ lists choice. (from_choices choice lists, in_choices choice lists)
