use Rattle.std.proofs.Common.{◌≡◌, ◌+◌, ℕ, Bool, true, false, ap, refl, sym, ◌∙◌, arith}
use Rattle.std.specs.Prelude.{◌||◌}
use Rattle.sessions.specs.Meaning.{sessions_of}
use Rattle.script_parse.specs.Script.{Whole, Skipped}
use Rattle.script_parse.specs.Splitting.{found}
use Rattle.script_cli_statement.specs.declared.stop_reason.StopReason.TheVariants.{WriteFault}
use Rattle.script_cli_statement.proofs.OnePut.{nothing_between}
use Rattle.script_cli.proofs.Taking.{took_all, took_answer, halted_answer, halted_memory, all_taken}
use Rattle.script_cli.proofs.script_run.ScriptRun.turn.Goals as goal

or_true : (a : Bool) → (a || true) ≡ true
or_true true = refl
or_true false = refl

plus_none : (n : ℕ) → n ≡ n + 0
plus_none n = omega arith

pub returns-in-More-clause-fed : goal.returns-in-More-clause-fed
returns-in-More-clause-fed g c = λ limit same now represents.
    took_all limit now c.args.self.now _ c.feed.new.self c.args.archive.now c.args.archive.now
    c.args.bytes.now c.in-Ok.rest.now (g.K.Sink.written c.args.sink.now)
    (g.K.Sink.written c.args.sink.now) c.in-Ok.cut c.in-Ok.ensures.statements
    c.in-Ok.ensures.tail refl
    c.in-More.is (all_taken _ _ _ c.in-More.is c.in-Ok.ensures.settled)
    (g.met.D.Disk.valid c.args.archive.now.journal.disk)
    (record { archive = represents.archive; sessions = represents.sessions }) refl refl

pub returns-in-Ok-answer-clause-fed : goal.returns-in-Ok-answer-clause-fed
returns-in-Ok-answer-clause-fed g c = λ limit same now represents.
    let answered = c.in-Ok-answer.ensures.answered limit same now
    (record { archive = represents.archive; sessions = represents.sessions }) in
    let text = c.deref.ensures.value in
    took_answer limit now c.args.self.now c.answer.new.self c.feed.new.self c.args.archive.now
    c.answer.new.archive c.args.bytes.now c.in-Ok.rest.now _ _ c.in-Ok.cut
    c.in-Ok.ensures.statements c.in-Ok.ensures.tail answered.splitter
    (Whole c.in-Text.text.items) (ap found c.in-Text.is) (rw text at answered.represents)
    (rw text at answered.refused) (rw text at answered.puts) (rw text at answered.counted)
    (rw text at answered.wrote)

pub returns-in-Text-clause-halted : goal.returns-in-Text-clause-halted
returns-in-Text-clause-halted g c = λ limit same now represents.
    halted_answer limit now c.args.self.now c.answer.new.self c.feed.new.self c.args.archive.now
    c.answer.new.archive c.args.bytes.now c.in-Ok.rest.now _ _ c.in-Ok.cut
    c.in-Ok.ensures.statements c.in-Ok.ensures.tail c.answer.ensures.splitter
    c.in-Err-answer.reason (Whole c.in-Text.text.items) (ap found c.in-Text.is)
    (g.met.D.Disk.valid c.args.archive.now.journal.disk)
    (rw c.deref.ensures.value at (c.in-Err-answer.ensures.stopped limit same now
    (record { archive = represents.archive; sessions = represents.sessions })))

pub returns-in-Ok-refuse_long-clause-fed : goal.returns-in-Ok-refuse_long-clause-fed
returns-in-Ok-refuse_long-clause-fed g c = λ limit same now represents.
    let a = c.args.archive.now in
    took_answer limit now c.args.self.now c.refuse_long.new.self c.feed.new.self a a
    c.args.bytes.now c.in-Ok.rest.now _ _ c.in-Ok.cut c.in-Ok.ensures.statements
    c.in-Ok.ensures.tail c.refuse_long.ensures.splitter
    Skipped (ap found c.in-TooLong.is) (record {
      archive = represents.archive;
      sessions = ap sessions_of c.refuse_long.ensures.sessions ∙ represents.sessions;
    })
    (c.in-Ok-refuse_long.ensures.refused ∙ sym (or_true c.args.self.now.refused))
    (nothing_between a (g.met.D.Disk.valid a.journal.disk))
    (c.refuse_long.ensures.puts ∙ plus_none c.args.self.now.puts)
    c.in-Ok-refuse_long.ensures.all

pub returns-in-Ok-clause-halted : goal.returns-in-Ok-clause-halted
returns-in-Ok-clause-halted g c = λ limit same now represents.
    let a = c.args.archive.now in
    let law = g.met.D.Disk.valid a.journal.disk in
    halted_answer limit now c.args.self.now c.refuse_long.new.self c.feed.new.self a a
    c.args.bytes.now c.in-Ok.rest.now _ _ c.in-Ok.cut c.in-Ok.ensures.statements
    c.in-Ok.ensures.tail c.refuse_long.ensures.splitter
    WriteFault Skipped (ap found c.in-TooLong.is) law
    (c.in-Err-refuse_long.ensures.part, nothing_between a law)

pub returns-clause-halted : goal.returns-clause-halted
returns-clause-halted g c = λ limit same now represents.
    halted_memory limit now _ c.args.archive.now _
    (g.met.D.Disk.valid c.args.archive.now.journal.disk)

pub returns-in-Ok-answer-clause-ready : goal.returns-in-Ok-answer-clause-ready
returns-in-Ok-answer-clause-ready g c = ap (λ s. s.spent) c.answer.ensures.splitter
    ∙ c.in-Ok.ensures.after

pub returns-in-Ok-refuse_long-clause-ready : goal.returns-in-Ok-refuse_long-clause-ready
returns-in-Ok-refuse_long-clause-ready g c = ap (λ s. s.spent) c.refuse_long.ensures.splitter
    ∙ c.in-Ok.ensures.after

pub returns-in-Ok-refuse_long-clause-counts : goal.returns-in-Ok-refuse_long-clause-counts
returns-in-Ok-refuse_long-clause-counts g c = (c.in-Ok-refuse_long.ensures.cause.kept, refl)

pub returns-in-Ok-clause-counts : goal.returns-in-Ok-clause-counts
returns-in-Ok-clause-counts g c = (
  (
    c.in-Err-refuse_long.ensures.cause.later,
    c.in-Err-refuse_long.ensures.cause.failed,
  ),
  refl,
)
