use Rattle.std.proofs.Common.{ap, refl, sym, ◌∙◌, arith}
use Rattle.std.specs.Prelude.{◌||◌}
use Rattle.script_cli_statement.specs.Replies.{reply}
use Rattle.script_cli.proofs.Counting.{one_put, none_put, error_put}
use Rattle.script_cli_statement.proofs.OnePut.{nothing_between}
use Rattle.script_cli.proofs.script_run.ScriptRun.answer.Goals.{then-self, else-self}
use Rattle.script_cli.proofs.script_run.ScriptRun.answer.Goals as goal

pub returns-then-is_command-clause-answered : goal.returns-then-is_command-clause-answered
returns-then-is_command-clause-answered g c = λ limit same now represents.
    let r = reply limit now c.args.text.now in
    let replied = c.in-Ok.ensures.replies limit same now represents.archive represents.sessions in
    let one = one_put limit now c.args.text.now c.in-Ok.put replied.is
    (sym c.is_command.ensures ∙ c.if-is_command.true) in
    record {
      splitter = refl;
      represents = record {
        archive = replied.represents;
        sessions = c.in-Ok.ensures.sessions limit now represents.archive represents.sessions;
      };
      refused = elim c.if-self.branch [
        | then-self w ↦ w.self-is ∙ w.if-self.true ∙ ap (λ x. x || r.is_error) (sym w.if-self.true)
        | else-self w ↦ w.self-is ∙ w.is_error-self.ensures
            ∙ error_put limit now c.args.text.now c.in-Ok.put replied.is
            ∙ ap (λ x. x || r.is_error) (sym w.if-self.false)
      ];
      puts = replied.puts;
      counted = omega (arith, one, c.in-Some.ensures);
      wrote = replied.text;
    }

pub returns-else-is_command-clause-answered : goal.returns-else-is_command-clause-answered
returns-else-is_command-clause-answered g c = λ limit same now represents.
    let r = reply limit now c.args.text.now in
    let replied = c.in-Ok.ensures.replies limit same now represents.archive represents.sessions in
    let none = none_put limit now c.args.text.now c.in-Ok.put replied.is
    (sym c.is_command.ensures ∙ c.if-is_command.false) in
    record {
      splitter = refl;
      represents = record {
        archive = replied.represents;
        sessions = c.in-Ok.ensures.sessions limit now represents.archive represents.sessions;
      };
      refused = elim c.if-self.branch [
        | then-self w ↦ w.self-is ∙ w.if-self.true ∙ ap (λ x. x || r.is_error) (sym w.if-self.true)
        | else-self w ↦ w.self-is ∙ w.is_error-self.ensures
            ∙ error_put limit now c.args.text.now c.in-Ok.put replied.is
            ∙ ap (λ x. x || r.is_error) (sym w.if-self.false)
      ];
      puts = replied.puts;
      counted = omega (arith, none);
      wrote = replied.text;
    }

pub returns-in_default-clause-stopped : goal.returns-in_default-clause-stopped
returns-in_default-clause-stopped g c = λ limit same now represents.
    let a = c.args.archive.now in (refl, nothing_between a (g.met.D.Disk.valid a.journal.disk))
