use Rattle.temporal_lang_grammar_spec.proofs.BranchCorrectness.{branch_correct}
use Rattle.temporal_lang_grammar_spec.proofs.QueryCorrectness.{ask_correct, full_ask_correct}
use Rattle.temporal_lang_grammar_spec.proofs.laws.queries_are_correct.Goals as goal

pub returns-clause-branch : goal.returns-clause-branch
returns-clause-branch c = branch_correct

pub returns-clause-ask : goal.returns-clause-ask
returns-clause-ask c = ask_correct

pub returns-clause-full_ask : goal.returns-clause-full_ask
returns-clause-full_ask c = full_ask_correct
