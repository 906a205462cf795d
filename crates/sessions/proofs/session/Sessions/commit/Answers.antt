use Rattle.std.proofs.Common.{refl, subst, Ok, Err, ℕ, Option}
use Rattle.smo_ops_types.specs.declared.command.Body.{Body}
use Rattle.smo_ops_types.specs.Commands.{PlainCommand}
use Rattle.sessions.specs.Vaults.{Commits}
use Rattle.sessions.specs.Meaning.{transactions_of, sessions_of}
use Rattle.sessions.specs.Steps.{changes_so_far}
use Rattle.sessions.specs.Serving.{IsCommandOf, ComesToVault}
use Rattle.sessions.proofs.Committed.{ended, refused_serves, done_serves, gives_fault}
use Rattle.sessions.proofs.session.Sessions.commit.Goals as goal

pub returns-in-Ok-clause-serves : goal.returns-in-Ok-clause-serves
returns-in-Ok-clause-serves g c = λ shared sh.
    let t = transactions_of c.args.self.now.transactions.entries c.args.session in
    let h = subst (λ (o : Option (ℕ × Body)). IsCommandOf c.args.session c.args.stamp
    c.newest-newest.result t (Ok o)) c.in-Some.is c.in_ok-command_of.ensures in
    let comes = subst (λ n. ComesToVault c.args.session n t)
    (c.newest-newest.ensures.newest shared sh)
    h.0 in
    let b = subst (λ (k : PlainCommand). Commits g.V.Vault.needs shared k (Ok c.in-Ok.done)
    (g.V.Vault.shows c.commit.new.self)) h.1 (c.in-Ok.ensures.committed shared sh) in
    done_serves g.V.Vault.needs shared c.args.stamp (sessions_of c.args.self.now) c.args.session
    (g.V.Vault.shows c.commit.new.self) comes c.in-Ok.done _
    (ended c.args.self.now.transactions.entries _ c.args.session _
    c.swap_remove-in-Ok.ensures.updates.0) b

pub returns-in-Err-clause-serves : goal.returns-in-Err-clause-serves
returns-in-Err-clause-serves g c = λ shared sh.
    let t = transactions_of c.args.self.now.transactions.entries c.args.session in
    let h = subst (λ (o : Option (ℕ × Body)). IsCommandOf c.args.session c.args.stamp
    c.newest-newest.result t (Ok o)) c.in-Some.is c.in_ok-command_of.ensures in
    let comes = subst (λ n. ComesToVault c.args.session n t)
    (c.newest-newest.ensures.newest shared sh)
    h.0 in
    let b = subst (λ (k : PlainCommand). Commits g.V.Vault.needs shared k (Err c.in-Err.fault)
    (g.V.Vault.shows c.commit.new.self)) h.1 (c.in-Err.ensures.committed shared sh) in
    refused_serves g.V.Vault.needs shared c.args.stamp (sessions_of c.args.self.now) c.args.session
    (g.V.Vault.shows c.commit.new.self) comes c.in-Err.fault b

-- ---- what became of the vault

pub returns-in-Ok-clause-gives : goal.returns-in-Ok-clause-gives
returns-in-Ok-clause-gives g c =
    let t = transactions_of c.args.self.now.transactions.entries c.args.session in
    let h = subst (λ (o : Option (ℕ × Body)). IsCommandOf c.args.session c.args.stamp
    c.newest-newest.result t (Ok o)) c.in-Some.is c.in_ok-command_of.ensures in (
      h.0.some,
      subst (λ (k : PlainCommand). g.V.Vault.commits c.args.vault.now k (Ok c.in-Ok.done)
          c.commit.new.self) h.1 c.in-Ok.ensures.commits,
    )

pub returns-in-Err-clause-gives : goal.returns-in-Err-clause-gives
returns-in-Err-clause-gives g c =
    let t = transactions_of c.args.self.now.transactions.entries c.args.session in
    let h = subst (λ (o : Option (ℕ × Body)). IsCommandOf c.args.session c.args.stamp
    c.newest-newest.result t (Ok o)) c.in-Some.is c.in_ok-command_of.ensures in
    gives_fault g.V.Vault.commits c.args.vault.now c.commit.new.self c.args.stamp
    (changes_so_far t) c.in-Err.fault (
      h.0.some,
      subst (λ (k : PlainCommand). g.V.Vault.commits c.args.vault.now k (Err c.in-Err.fault)
          c.commit.new.self) h.1 c.in-Err.ensures.commits,
    )

pub returns-in-None-clause-gives : goal.returns-in-None-clause-gives
returns-in-None-clause-gives g c =
    let t = transactions_of c.args.self.now.transactions.entries c.args.session in
    let h = subst (λ (o : Option (ℕ × Body)). IsCommandOf c.args.session c.args.stamp
    c.newest-newest.result t (Ok o)) c.in-None.is c.in_ok-command_of.ensures in (h.1, refl)
