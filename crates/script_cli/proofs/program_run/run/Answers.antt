use Rattle.std.proofs.Common.{◌≡◌, ◌⊎◌, ⊎_elim, inl, inr, ℕ, [], refl, sym, ap, ◌∙◌}
use Rattle.std.specs.Prelude.{Option, Some, None, map, option_and_then, string_bytes}
use Rattle.smo_ops_spec.specs.Past.{Past}
use Rattle.temporal_lang_spec.specs.Answers.{answer}
use Rattle.piece_ir_spec.specs.Books.{book_of}
use Rattle.script_cli_arguments.specs.declared.request.Mode.{Mode}
use Rattle.script_cli_arguments.specs.declared.request.Mode.TheVariants.{Run, Sample}
use Rattle.script_cli_arguments.specs.declared.request.Request.{Request}
use Rattle.script_cli_arguments.specs.Arguments.{asked, limit_in, limit_of_run, request}
use Rattle.script_cli_sample.specs.Statements.{sample_script}
use Rattle.script_cli_statement.specs.Replies.{recorded}
use Rattle.script_cli.specs.Output.{recorded_after}
use Rattle.script_cli.specs.Files.{IsSoundFile}
use Rattle.script_cli.specs.Runs.{given_by}
use Rattle.script_cli.specs.declared.status.Status.{Status}
use Rattle.script_cli.specs.declared.status.Status.TheVariants.{NotAJournal, Words, NoMemory}
use Rattle.script_cli.proofs.ValidPasts.{of_script, still_made}
use Rattle.script_cli_statement.proofs.ExplainedQueries.{tells_pieces}
use Rattle.script_cli_statement.proofs.Errors.{error_told}
use Rattle.script_cli_statement.specs.ArchiveOnDisk.{need_of}
use Rattle.script_cli.proofs.SessionStatements.{statements_are_steps, commits_are_commands}
use Rattle.script_cli.proofs.FetchedEntries.{fetches_are_of_the_answer}
use Rattle.script_cli.proofs.Recording.{recorded_is, put_sound, put_accepted, still_sound}
use Rattle.script_cli.proofs.OnDisks.{sound_opens}
use Rattle.script_cli.proofs.Answered.{answered_over, answered_untouched}
use Rattle.script_cli.proofs.Telling.{prefix_over, whole_over, crash_over, sound_over, damaged_over}
use Rattle.script_cli.proofs.Telling.{refuses_over, prefix_untouched, crash_untouched}
use Rattle.script_cli.proofs.Telling.{untouched_leaves, not_whole_untouched, refuses_untouched}
use Rattle.script_cli.proofs.Telling.{not_damaged_untouched}
use Rattle.script_cli.proofs.SampleRuns.{sample_damaged, sample_refuses, sample_whole, sample_held}
use Rattle.script_cli.proofs.SampleRuns.{sample_crash, sample_sound}
use Rattle.script_cli_statement.proofs.PairedQueries.{aggregated_is, query_fine}
use Rattle.script_cli_statement.proofs.PairedQueries.{left_fine, right_fine, answer_ascends}
use Rattle.script_cli.proofs.program_run.run.Goals as goal

-- nothing is asked for, or a run, or a sample
asks : (o : Option Request) → (o ≡ None) ⊎ (((limit : ℕ)
    × (option_and_then limit_of_run o ≡ Some limit))
    ⊎ ((limit : ℕ) × (size : ℕ) × (o ≡ Some (request limit (Sample size)))))
asks None = inl refl
asks (Some r) = by r.mode refl
  where
    by : (mode : Mode) → r.mode ≡ mode
        → (Some r ≡ None) ⊎ (((limit : ℕ) × (limit_in r.mode r.journal_limit ≡ Some limit))
        ⊎ ((limit : ℕ) × (size : ℕ) × (Some r ≡ Some (request limit (Sample size)))))
    by Run is = inr (inl (r.journal_limit, ap (λ m. limit_in m r.journal_limit) is))
    by (Sample size) is = inr (inr (
      r.journal_limit,
      size,
      ap (λ m. Some (request r.journal_limit m)) is,
    ))

-- wrong words are not answered by damage
words_not_damaged : (status : Status) (place : ℕ) → status ≡ NotAJournal place → (status ≡ Words)
    ⊎ (status ≡ NoMemory) → ⊥
words_not_damaged status place is (inl arguments) = let same : NotAJournal place ≡ Words = sym is
    ∙ arguments in cc
words_not_damaged status place is (inr memory) = let same : NotAJournal place ≡ NoMemory = sym is
    ∙ memory in cc

pub returns-clause-damaged : goal.returns-clause-damaged
returns-clause-damaged g c = λ place is.
    let M = g.D.Disk.meaning in
    ⊎_elim
    (λ none. let refused = c.check_and_run.ensures.refused none in
    absurd (words_not_damaged c.check_and_run.result place is
    (⊎_elim (λ w. inl w.0) (λ m. inr m.0) refused.wrote)))
    (λ some. ⊎_elim
    (λ run. ⊎_elim
    (λ untouched. absurd (not_damaged_untouched M _ _ _ _ _ _ _ untouched place is))
    (λ over. damaged_over (given_by run.0
    (book_of g.R.Rule.handles g.R.Rule.answers c.args.book.now.rules.items)) _
    _ _ _ _ _ _ (M c.args.disk.now) (M c.check_and_run.new.disk) place is over)
    (c.check_and_run.ensures.runs run.0 run.1))
    (λ sample. ⊎_elim
    (λ untouched. absurd (not_damaged_untouched M _ _ _ _ _ _ _ untouched place is))
    (λ over. sample_damaged sample.1 (given_by sample.0
    (book_of g.R.Rule.handles g.R.Rule.answers c.args.book.now.rules.items))
    (sample_script sample.1) _ _ _ _ _ _ _ (M c.args.disk.now) (M c.check_and_run.new.disk) over
    place is)
    (c.check_and_run.ensures.samples sample.0 sample.1 sample.2))
    some)
    (asks (asked (map string_bytes c.args.arguments.now)))

pub returns-clause-runs : goal.returns-clause-runs
returns-clause-runs g c = λ limit asked. record {
  runs = c.check_and_run.ensures.runs limit asked;
  refuses = λ file place seen damages.
      let M = g.D.Disk.meaning in
      ⊎_elim
      (λ untouched. refuses_untouched M _ _ _ _ _ _ _ untouched place)
      (λ over. refuses_over (given_by limit
      (book_of g.R.Rule.handles g.R.Rule.answers c.args.book.now.rules.items)) _
      _ _ _ _ _ _ (M c.args.disk.now) (M c.check_and_run.new.disk)
      c.a_file_opens_or_is_damaged.ensures.place c.a_file_opens_or_is_damaged.ensures.apart file
      place seen damages over)
      (c.check_and_run.ensures.runs limit asked);
  prefix = λ file opening seen opens.
      let M = g.D.Disk.meaning in
      ⊎_elim
      (λ untouched. prefix_untouched M _ _ _ _ _ _ _ untouched
      (given_by limit (book_of g.R.Rule.handles g.R.Rule.answers c.args.book.now.rules.items))
      (recorded opening))
      (λ over. prefix_over (given_by limit (book_of g.R.Rule.handles g.R.Rule.answers
      c.args.book.now.rules.items)) _
      _ _ _ _ _ _ (M c.args.disk.now) (M c.check_and_run.new.disk)
      c.a_file_opens_or_is_damaged.ensures.one c.a_file_opens_or_is_damaged.ensures.apart file
      opening seen opens over)
      (c.check_and_run.ensures.runs limit asked);
  whole = λ file opening seen opens is_whole.
      let M = g.D.Disk.meaning in
      ⊎_elim
      (λ untouched. absurd (not_whole_untouched M _ _ _ _ _ _ _ untouched is_whole))
      (λ over. whole_over (given_by limit (book_of g.R.Rule.handles g.R.Rule.answers
      c.args.book.now.rules.items)) _
      _ _ _ _ _ _ (M c.args.disk.now) (M c.check_and_run.new.disk)
      c.a_file_opens_or_is_damaged.ensures.one c.a_file_opens_or_is_damaged.ensures.apart file
      opening seen opens is_whole over)
      (c.check_and_run.ensures.runs limit asked);
  crash = λ file opening honest seen opens.
      let M = g.D.Disk.meaning in
      ⊎_elim
      (λ untouched. crash_untouched M _ _ _ _ _ _ _ untouched (g.met.D.Disk.valid c.args.disk.now)
      (given_by limit (book_of g.R.Rule.handles g.R.Rule.answers c.args.book.now.rules.items))
      opening)
      (λ over. crash_over (given_by limit (book_of g.R.Rule.handles g.R.Rule.answers
      c.args.book.now.rules.items)) _
      _ _ _ _ _ _ (M c.args.disk.now) (M c.check_and_run.new.disk)
      c.a_file_opens_or_is_damaged.ensures.one c.a_file_opens_or_is_damaged.ensures.apart file
      opening seen opens honest over)
      (c.check_and_run.ensures.runs limit asked);
  sound = λ file opening honest seen sound.
      let M = g.D.Disk.meaning in
      ⊎_elim
      (λ untouched. untouched_leaves M _ _ _ _ _ _ _ untouched (g.met.D.Disk.valid c.args.disk.now)
      IsSoundFile)
      (λ over. sound_over (given_by limit (book_of g.R.Rule.handles g.R.Rule.answers
      c.args.book.now.rules.items)) _
      _ _ _ _ _ _ (M c.args.disk.now) (M c.check_and_run.new.disk)
      c.a_file_opens_or_is_damaged.ensures.one c.a_file_opens_or_is_damaged.ensures.apart file
      opening seen (sound_opens file opening sound) honest sound.sound over)
      (c.check_and_run.ensures.runs limit asked);
}

pub returns-clause-acknowledged : goal.returns-clause-acknowledged
returns-clause-acknowledged g c = λ limit file opening asked honest seen opens.
    let M = g.D.Disk.meaning in
    let given = given_by limit
    (book_of g.R.Rule.handles g.R.Rule.answers c.args.book.now.rules.items) in
    ⊎_elim
    (λ untouched. inl (answered_untouched M _ _ _ _ _ _ _ untouched opening))
    (λ over. answered_over given _ _ _ _ _ (M c.args.disk.now) (M c.check_and_run.new.disk) opening
    file honest seen opens
    c.a_file_opens_or_is_damaged.ensures.one c.a_file_opens_or_is_damaged.ensures.apart _ _
    (g.met.D.Disk.valid c.check_and_run.new.disk) c.check_and_run.ensures.goes over)
    (c.check_and_run.ensures.runs limit asked)

pub returns-clause-samples : goal.returns-clause-samples
returns-clause-samples g c = λ limit size for. record {
  samples = c.check_and_run.ensures.samples limit size for;
  refuses = λ file place seen damages.
      let M = g.D.Disk.meaning in
      ⊎_elim
      (λ untouched. refuses_untouched M _ _ _ _ _ _ _ untouched place)
      (λ over. sample_refuses size (given_by limit
      (book_of g.R.Rule.handles g.R.Rule.answers c.args.book.now.rules.items))
      (sample_script size) _ _ _ _ _ _ _ (M c.args.disk.now) (M c.check_and_run.new.disk) over
      c.a_file_opens_or_is_damaged.ensures.place c.a_file_opens_or_is_damaged.ensures.apart file
      place seen damages)
      (c.check_and_run.ensures.samples limit size for);
  summary = λ file opening seen opens is_whole.
      let M = g.D.Disk.meaning in
      ⊎_elim
      (λ untouched. absurd (not_whole_untouched M _ _ _ _ _ _ _ untouched is_whole))
      (λ over. sample_whole size (given_by limit
      (book_of g.R.Rule.handles g.R.Rule.answers c.args.book.now.rules.items))
      (sample_script size) _ _ _ _ _ _ _ (M c.args.disk.now) (M c.check_and_run.new.disk) over
      c.a_file_opens_or_is_damaged.ensures.one file opening seen opens is_whole)
      (c.check_and_run.ensures.samples limit size for);
  held = λ file opening honest seen opens is_whole.
      let M = g.D.Disk.meaning in
      ⊎_elim
      (λ untouched. absurd (not_whole_untouched M _ _ _ _ _ _ _ untouched is_whole))
      (λ over. sample_held size (given_by limit
      (book_of g.R.Rule.handles g.R.Rule.answers c.args.book.now.rules.items))
      (sample_script size) _ _ _ _ _ _ _ (M c.args.disk.now) (M c.check_and_run.new.disk) over
      c.a_file_opens_or_is_damaged.ensures.one file opening seen opens honest is_whole)
      (c.check_and_run.ensures.samples limit size for);
  crash = λ file opening honest seen opens.
      let M = g.D.Disk.meaning in
      ⊎_elim
      (λ untouched. (
        [],
        tt,
        untouched_leaves M _ _ _ _ _ _ _ untouched
            (g.met.D.Disk.valid c.args.disk.now) _,
      ))
      (λ over. sample_crash size (given_by limit
      (book_of g.R.Rule.handles g.R.Rule.answers c.args.book.now.rules.items))
      (sample_script size) _ _ _ _ _ _ _ (M c.args.disk.now) (M c.check_and_run.new.disk) over
      c.a_file_opens_or_is_damaged.ensures.one file opening seen opens honest)
      (c.check_and_run.ensures.samples limit size for);
  sound = λ file opening honest seen sound.
      let M = g.D.Disk.meaning in
      ⊎_elim
      (λ untouched. untouched_leaves M _ _ _ _ _ _ _ untouched (g.met.D.Disk.valid c.args.disk.now)
      IsSoundFile)
      (λ over. sample_sound size (given_by limit
      (book_of g.R.Rule.handles g.R.Rule.answers c.args.book.now.rules.items))
      (sample_script size) _ _ _ _ _ _ _ (M c.args.disk.now) (M c.check_and_run.new.disk) over
      c.a_file_opens_or_is_damaged.ensures.one file opening seen (sound_opens file opening sound)
      honest sound.sound)
      (c.check_and_run.ensures.samples limit size for);
}

pub returns-clause-laws : goal.returns-clause-laws
returns-clause-laws g c = record {
  splits = c.a_script_is_read_in_one_way.ensures.read;
  once = c.a_script_is_read_in_one_way.ensures.only;
  closed = c.a_statement_has_no_open_text.ensures.faults;
  lexes = c.texts_are_lexed.ensures;
  reads = c.readings_are_of_the_grammar.ensures;
  readable = c.statements_are_read.ensures;
  only = c.readings_are_one.ensures;
  limits = c.limits_are_kept.ensures;
  records = λ limit opening statements log are. (
    recorded_is limit opening statements log are,
    put_sound limit opening statements log are,
    put_accepted limit opening statements log are,
    still_sound limit opening statements log are,
  );
  seen = let law = c.a_command_is_seen_from_its_stamp_on.ensures in
      λ limit opening statements command m are history accepted. (
        λ l. law.before _ command m l,
        λ l. law.from _ command m
            (still_made c.an_image_shows_a_past.ensures.past limit opening statements are history)
            accepted l,
      );
  answers = let one = c.listing_is_the_one_list.ensures.is in
      let lasting = c.an_accepted_query_asks_questions.ensures.lasting in
      λ limit opening statements query are history accepted to.
      let past : Past = (recorded_after limit (recorded opening) statements).past in
      let made = still_made c.an_image_shows_a_past.ensures.past limit opening statements are
      history in
      (one past query made.states made.begun (lasting past query accepted) to, refl);
  pairs = let one = c.listing_is_the_one_list.ensures.is in
      let lasting = c.an_accepted_query_asks_questions.ensures.lasting in
      λ limit opening statements left relation right are history accepted to_left to_right.
      let past : Past = (recorded_after limit (recorded opening) statements).past in
      let made = still_made c.an_image_shows_a_past.ensures.past limit opening statements are
      history in
      c.related_entries_are_all.ensures relation (answer past left) (answer past right)
      (answer_ascends past left to_left (one past left made.states made.begun
      (lasting past left (left_fine past left right accepted)) to_left))
      (answer_ascends past right to_right (one past right made.states made.begun
      (lasting past right (right_fine past left right accepted)) to_right));
  aggregates = let one = c.listing_is_the_one_list.ensures.is in
      let lasting = c.an_accepted_query_asks_questions.ensures.lasting in
      λ limit opening statements items group query are history accepted full to.
      let past : Past = (recorded_after limit (recorded opening) statements).past in
      let made = still_made c.an_image_shows_a_past.ensures.past limit opening statements are
      history in
      aggregated_is past items group query full to (one past query made.states made.begun
      (lasting past query (query_fine past items group query accepted)) to);
  explains = λ limit opening statements text query are history read accepted.
      let given = given_by limit (book_of g.R.Rule.handles g.R.Rule.answers
      c.args.book.now.rules.items) in
      tells_pieces given c.known.ensures (recorded_after given (recorded opening) statements)
      (of_script c.an_image_shows_a_past.ensures.past given opening statements are history) text
      query
      read accepted;
  inverse = λ limit opening statements query k kind told.
      c.a_query_is_refused_for_want_of_an_inverse_alone.ensures
      (recorded_after limit (recorded opening) statements).past query k kind told;
  losses = c.databases_agree_up_to_losses.ensures;
  fillings = λ limit opening statements query constants m are history kinds accepted from to.
      c.no_answer_shows_a_filling.ensures.asked
      (recorded_after limit (recorded opening) statements).past query m constants kinds
      (still_made c.an_image_shows_a_past.ensures.past limit opening statements are history)
      (c.an_accepted_query_asks_questions.ensures.found
      (recorded_after limit (recorded opening) statements).past query accepted) from to;
  steps = statements_are_steps;
  cursors = c.cursors_keep_their_answers.ensures need_of;
  fetches = fetches_are_of_the_answer (c.cursors_keep_their_answers.ensures need_of);
  apart = c.sessions_are_apart.ensures need_of;
  transactions = c.transactions_are_whole.ensures need_of;
  commits = c.only_commits_change.ensures need_of;
  commands = commits_are_commands;
  errors = error_told;
}
