use Rattle.lexer_combinators.proofs.OverflowSteps.{overflow_exceeds, no_overflow_no_excess}
use Rattle.temporal_lang_grammar_spec.specs.QueryGrammar.{IsAsk}
use Rattle.temporal_lang_grammar_spec.specs.QueryReader.{ask, follow_ask}
use Rattle.temporal_lang_grammar_spec.specs.QueryOverflows.{ask_overflows}
use Rattle.temporal_lang_grammar_spec.proofs.QueryCorrectness.{ask_correct}
use Rattle.temporal_lang_grammar_spec.proofs.QueryAlong.{ask_whole, ask_sized}
use Rattle.temporal_lang_grammar_spec.proofs.laws.overflows_tell_what_is_too_much.Goals as goal

pub returns-clause-some : goal.returns-clause-some
returns-clause-some c = λ q s f h w k first. overflow_exceeds ask IsAsk follow_ask ask_correct
    ask_overflows ask_whole ask_sized q s f h w k first

pub returns-clause-none : goal.returns-clause-none
returns-clause-none c = λ q s f h none. no_overflow_no_excess ask IsAsk follow_ask ask_correct
    ask_overflows ask_whole ask_sized q s f h none

pub returns-clause-each : goal.returns-clause-each
returns-clause-each c = λ q s f h. ask_sized q s f h
