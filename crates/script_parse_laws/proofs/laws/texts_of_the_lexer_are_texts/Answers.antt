use Rattle.script_parse_laws.proofs.LexerTexts.{literal_is_text, text_is_literal, open_is_inside}
use Rattle.script_parse_laws.proofs.LexerTexts.{inside_is_open}
use Rattle.script_parse_laws.proofs.laws.texts_of_the_lexer_are_texts.Goals as goal

pub returns-clause-closed : goal.returns-clause-closed
returns-clause-closed c = λ bytes. (
  λ h. literal_is_text h.0 bytes h.1,
  λ h.
      text_is_literal bytes h,
)

pub returns-clause-open : goal.returns-clause-open
returns-clause-open c = λ bytes. (λ h. open_is_inside bytes h, λ h. inside_is_open bytes h.0 h.1)
