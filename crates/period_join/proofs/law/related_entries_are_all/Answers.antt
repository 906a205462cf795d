use Rattle.period_join.proofs.RelatedLaws.{are_related}
use Rattle.period_join.proofs.law.related_entries_are_all.Goals as goal

pub returns : goal.returns
returns c = are_related
