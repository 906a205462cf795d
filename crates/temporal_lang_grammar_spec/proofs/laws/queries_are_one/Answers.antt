use Rattle.temporal_lang_grammar_spec.proofs.WholePrefixes.{one_value}
use Rattle.temporal_lang_grammar_spec.specs.QueryGrammar.{IsAsk}
use Rattle.temporal_lang_grammar_spec.specs.QueryReader.{ask, follow_ask}
use Rattle.temporal_lang_grammar_spec.proofs.QueryCorrectness.{ask_correct}
use Rattle.temporal_lang_grammar_spec.proofs.laws.queries_are_one.Goals as goal

pub returns : goal.returns
returns c = λ q r s t f h k few valid. one_value ask IsAsk follow_ask ask_correct q r s t f h k few
    valid
