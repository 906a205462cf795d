-- What a session is answered, as bytes.
use Rattle.std.specs.Prelude.{ℕ, List}
use Rattle.answer_text.specs.Texts.{changed_text, listing_text}
use Rattle.answer_text.specs.SessionTexts.{begun_text, buffered_text, empty_text, aborted_text}
use Rattle.answer_text.specs.SessionTexts.{opened_text, closed_text}
use Rattle.sessions.specs.Steps.{Answer, begun, buffered, committed, committed_nothing, aborted}
use Rattle.sessions.specs.Steps.{opened, fetched, closed}

-- a COMMIT has the line of a command of changes, a FETCH those of a query
abbrev pub said_text : Answer → List ℕ
said_text (begun version) = begun_text version
said_text (buffered count) = buffered_text count
said_text (committed stamp gained lost) = changed_text stamp gained lost
said_text committed_nothing = empty_text
said_text aborted = aborted_text
said_text (opened count) = opened_text count
said_text (fetched told entries) = listing_text told entries
said_text closed = closed_text
