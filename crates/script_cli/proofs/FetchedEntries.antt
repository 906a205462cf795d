-- What a FETCH tells of a cursor, as the bytes of its reply.
use Rattle.std.proofs.Common.{◌≡◌, ℕ, false, List, length, take, drop, refl, sym, ap, ◌∙◌}
use Rattle.std.proofs.Common.{true≢false}
use Rattle.std.specs.Prelude.{Some, None}
use Rattle.smo_ops_spec.specs.Checks.{Fault}
use Rattle.temporal_lang_types.specs.declared.when.When.{When}
use Rattle.temporal_lang_types.specs.declared.when.When.TheVariants.{Always, AsOf, During}
use Rattle.temporal_lang_spec.specs.Answers.{answer}
use Rattle.sessions.specs.Requests.{Request, opening, fetching}
use Rattle.sessions.specs.Steps.{World, fault_of, answer_of, tells_periods as cursor_periods}
use Rattle.sessions.specs.Runs.{asked, after, after_all, given, CursorsKeepTheirAnswers}
use Rattle.script_parse.specs.Statements.{session}
use Rattle.script_parse.specs.Reading.{Reading, Whole, reading}
use Rattle.script_cli_statement.specs.ArchiveOnDisk.{tells_periods}
use Rattle.answer_text.specs.Texts.{listing_text}
use Rattle.script_cli_statement.specs.ArchiveOnDisk.{need_of}
use Rattle.script_cli_statement.specs.Given.{Given}
use Rattle.script_cli_statement.specs.SessionLines.{said_text}
use Rattle.script_cli_statement.specs.Replies.{Recorded, Reply, refused_or, shared_by, world_of}
use Rattle.script_cli_statement.specs.Replies.{request_reply, session_reply, reading_reply, reply}
use Rattle.script_cli_statement.specs.Stepping.{step_of}
use Rattle.script_cli_statement.proofs.SessionSteps.{reply_is_step}
use Rattle.script_cli.specs.Output.{recorded_after}
use Rattle.script_cli.specs.Stepping.{steps_of, FetchesAreOfTheAnswer}
use Rattle.script_cli.proofs.SessionStatements.{statements_are_steps}

-- a cursor's entries are told as those of its query
periods_alike : (when : When) → cursor_periods when ≡ tells_periods when
periods_alike Always = refl
periods_alike (AsOf m) = refl
periods_alike (During a b) = refl

module _ (limit : Given) (s : ℕ) (request : Request) where
  -- what a session is answered by a text that asks for it
  asked_by : (now : Recorded) (text : List ℕ) → reading text ≡ Whole (session s request)
      → reply limit now text ≡ session_reply limit s request now
  unfolding reply
  asked_by now text read = ap (λ (r : Reading). reading_reply limit r now) read

  -- no error: it was not refused
  no_fault : (now : Recorded) (f : Fault)
      → (refused_or f now (request_reply limit s request now)).is_error ≡ false → f ≡ None
  no_fault now None e = refl
  no_fault now (Some r) e = absurd (true≢false e)

  -- where it is not refused it is told what its step answers
  told : (now : Recorded) (w : World) → world_of limit now ≡ w
      → fault_of need_of w s request ≡ None
      → (session_reply limit s request now).text ≡ said_text (answer_of need_of w s request)
  told now w is none =
      ap (λ (f : Fault). (refused_or f now (request_reply limit s request now)).text)
      (ap (λ (v : World). fault_of need_of v s request) is ∙ none)
      ∙ ap (λ (v : World). said_text (answer_of need_of v s request)) is

  -- what stands after it is what its step leaves
  stands : (now : Recorded) (text : List ℕ) → reading text ≡ Whole (session s request)
      → world_of limit (reply limit now text).after
      ≡ after need_of (world_of limit now) (asked s request)
  stands now text read = reply_is_step limit now text
      ∙ ap (λ (r : Reading). after need_of (world_of limit now) (step_of r
      (shared_by limit (reply limit now text).after))) read

pub fetches_are_of_the_answer : CursorsKeepTheirAnswers need_of → (limit : Given)
    → FetchesAreOfTheAnswer limit
fetches_are_of_the_answer law limit now open_text fetch_text statements s name query count
    opens no_error left fetches =
    let w = world_of limit now in
    let opened = (reply limit now open_text).after in
    let steps = steps_of limit opened statements in
    let fault : fault_of need_of w s (opening name query) ≡ None
    = no_fault limit s (opening name query) now (fault_of need_of w s (opening name query))
    (sym (ap (λ (r : Reply). r.is_error) (asked_by limit s (opening name query) now open_text
    opens)) ∙ no_error) in
    let at : world_of limit opened ≡ after need_of w (asked s (opening name query))
    = stands limit s (opening name query) now open_text opens in
    let served = law w s name query steps fault left in
    let later = recorded_after limit opened statements in
    let stand : world_of limit later
    ≡ after_all need_of (after need_of w (asked s (opening name query))) steps
    = statements_are_steps limit opened statements
    ∙ ap (λ (v : World). after_all need_of v steps) at in
    ap (λ (r : Reply). r.text) (asked_by limit s (fetching name count) later fetch_text fetches)
    ∙ told limit s (fetching name count) later
    (after_all need_of (after need_of w (asked s (opening name query))) steps) stand
    (served.open_still count)
    ∙ ap said_text (served.next count)
    ∙ (λ i. listing_text (periods_alike query.when i) (take count
    (drop (length (given need_of (sym at i) s name steps)) (answer now.past query))))
