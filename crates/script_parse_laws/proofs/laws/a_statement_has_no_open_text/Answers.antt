use Rattle.std.proofs.Common.{Some}
use Rattle.lexer_spec.specs.declared.fault.LexFault.TheVariants.{OpenQuote}
use Rattle.script_parse_laws.proofs.Scripts.{each_closed, each_without}
use Rattle.script_parse_laws.proofs.OpenTexts.{spaced_open}
use Rattle.script_parse_laws.proofs.laws.a_statement_has_no_open_text.Goals as goal

pub returns-clause-texts : goal.returns-clause-texts
returns-clause-texts c = each_closed

pub returns-clause-faulty : goal.returns-clause-faulty
returns-clause-faulty c = λ text f. spaced_open f.0 0 text f.1
    (c.tokens_are_spaced.ensures 0 text f.0 (Some (OpenQuote f.1)) f.2)

pub returns-clause-faults : goal.returns-clause-faults
returns-clause-faults c = λ script statements tail h.
    each_without statements (returns-clause-faulty c) (each_closed script statements tail h)
