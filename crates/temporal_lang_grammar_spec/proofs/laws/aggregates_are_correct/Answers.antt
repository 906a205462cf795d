use Rattle.temporal_lang_grammar_spec.proofs.AggregateCorrectness.{relation_correct, aggs_correct}
use Rattle.temporal_lang_grammar_spec.proofs.laws.aggregates_are_correct.Goals as goal

pub returns-clause-relation : goal.returns-clause-relation
returns-clause-relation c = relation_correct

pub returns-clause-aggregates : goal.returns-clause-aggregates
returns-clause-aggregates c = aggs_correct
