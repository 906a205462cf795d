use Rattle.std.proofs.Common.{refl, sym, ap, subst, ◌∙◌, ⊎_elim, inl, inr}
use Rattle.smo_ops_types.specs.Commands.{command_of}
use Rattle.sessions.specs.Vaults as vault
use Rattle.script_cli_vault.specs.Answered.{answer_of}
use Rattle.script_cli_vault.specs.Shown.{Shows, need_of}
use Rattle.script_cli_vault.proofs.Answers.{was_broken, had_failed}
use Rattle.script_cli_vault.proofs.Committed.{something, committed}
use Rattle.script_cli_vault.proofs.vault.ArchiveVaultVault.commit.Goals as goal

pub returns-clause-broken : goal.returns-clause-broken
returns-clause-broken g c = (
  λ e. c.commit.ensures.broken.0 (was_broken c.commit.result (sym c.answer_of.ensures ∙ e)),
  λ b. c.answer_of.ensures ∙ ap answer_of (c.commit.ensures.broken.1 b),
)

pub returns-clause-breaks : goal.returns-clause-breaks
returns-clause-breaks g c = (
  λ now. ⊎_elim (λ before. inl before) (λ failed. inr (c.answer_of.ensures ∙ ap answer_of failed))
      (c.commit.ensures.breaks.0 now),
  λ it. c.commit.ensures.breaks.1 (⊎_elim (λ before. inl before)
      (λ failed. inr (had_failed c.commit.result (sym c.answer_of.ensures ∙ failed))) it),
)

pub returns-clause-committed : goal.returns-clause-committed
returns-clause-committed g c = λ shared sh.
    let a = c.args.self.now.archive.now in
    let b = c.commit.new.self in
    let command = command_of c.args.command in
    subst (λ r. vault.Commits need_of shared command r (Shows b)) (sym c.answer_of.ensures)
    (committed a b command shared sh c.requires.changes c.commit.ensures.limit c.commit.result
    (c.commit.ensures.commits shared.past sh.past) c.commit.ensures.untouched
    c.commit.ensures.place)

pub returns-clause-known : goal.returns-clause-known
returns-clause-known g c = something c.args.self.now.archive.now c.commit.ensures.represents.0

pub returns-clause-cause : goal.returns-clause-cause
returns-clause-cause g c = λ failed.
    c.commit.ensures.cause (had_failed c.commit.result (sym c.answer_of.ensures ∙ failed))

pub returns-clause-unfailed : goal.returns-clause-unfailed
returns-clause-unfailed g c = λ other.
    c.commit.ensures.unfailed (λ failed. other (c.answer_of.ensures ∙ ap answer_of failed))

pub returns-clause-commits : goal.returns-clause-commits
returns-clause-commits g c = (
  record {
    answer = c.commit.result;
    same = c.answer_of.ensures;
    put = record {
      untouched = c.commit.ensures.untouched;
      limit = c.commit.ensures.limit;
      place = c.commit.ensures.place;
      written = c.commit.ensures.written;
      holds = c.commit.ensures.holds;
      encoded = c.commit.ensures.encoded;
      encoded_so_far = c.commit.ensures.encoded_so_far;
      puts = c.commit.ensures.puts;
      acknowledged = c.commit.ensures.acknowledged;
    };
  },
  refl,
  refl,
)
