-- A transaction that is begun is buffered into, in its place.
use Rattle.std.proofs.Common.{◌≡◌, ℕ, cond, nat_eq, List, Option, Some, sym, ap, ◌∙◌}
use Rattle.std.proofs.Common.{Result, Ok, Err}
use Rattle.std.specs.Option.{option_map}
use Rattle.std.specs.Map.{lookup}
use Rattle.smo_ops_types.specs.Changes.{PlainChange}
use Rattle.smo_ops_types.specs.Commands.{PlainCommand}
use Rattle.sessions.specs.declared.transaction.Transaction.{Transaction}
use Rattle.sessions.specs.declared.vault.VaultFault.{VaultFault}
use Rattle.sessions.specs.declared.vault.VaultFault.TheVariants as fault
use Rattle.sessions.specs.Shared.{Shared}
use Rattle.sessions.specs.SessionStates.{PlainTransaction, Cursors, some_sessions}
use Rattle.sessions.specs.Meaning.{transaction_of, transactions_of}
use Rattle.sessions.specs.Buffering.{Buffers}
use Rattle.sessions.specs.Requests.{buffering}
use Rattle.sessions.specs.Steps.{a_world, buffered, buffer_fault, changes_so_far}
use Rattle.sessions.specs.Steps.{buffered_in}
use Rattle.sessions.specs.Serving.{Serves}
use Rattle.std.specs.Prelude.{length, ◌+◌}
use Rattle.sessions.proofs.Keyed.{option_map-cond, given_again}

module _ (needs : PlainCommand → ℕ) (shared : Shared) (cursors : Cursors)
    (old new : List (ℕ × Transaction))
    (s : ℕ) (cs : List PlainChange) (t u : Transaction) (was : lookup (nat_eq s) old ≡ Some t)
    (is : (q : ℕ) → lookup (nat_eq q) new ≡ cond (nat_eq s q) (Some u)
    (lookup (nat_eq q) old)) where
  abbrev pub before : ℕ → Option PlainTransaction
  before = transactions_of old

  was_seen : before s ≡ Some (transaction_of t)
  was_seen = ap (option_map transaction_of) was

  is_seen : (q : ℕ) → transactions_of new q ≡ cond (nat_eq s q) (Some (transaction_of u)) (before q)
  is_seen q = ap (option_map transaction_of) (is q)
      ∙ option_map-cond transaction_of (nat_eq s q) (Some u) (lookup (nat_eq q) old)

  -- where it is seen as it was, all are
  stay : transaction_of u ≡ transaction_of t
      → some_sessions (transactions_of new) cursors ≡ some_sessions before cursors
  stay e i = some_sessions (λ q. (is_seen q
      ∙ given_again before s (Some (transaction_of u)) (was_seen ∙ ap Some (sym e)) q) i) cursors

  pub buffered_serves : (r : Result ℕ VaultFault)
      → Buffers (transaction_of t) cs r (transaction_of u)
      → Serves needs buffered (a_world shared (some_sessions before cursors)) s (buffering cs) r
      (some_sessions (transactions_of new) cursors)
  buffered_serves (Ok n) h = (
    ap (buffer_fault s cs) was_seen ∙ h.0,
    ap buffered (h.1 ∙ ap (λ o. length (changes_so_far o) + length cs) (sym was_seen)),
    λ i. some_sessions (λ q. (is_seen q
        ∙ ap (λ o. cond (nat_eq s q) o (before q))
        (ap Some h.2 ∙ ap (buffered_in cs) (sym was_seen))) i) cursors,
  )
  buffered_serves (Err (fault.Refused r)) h = (ap (buffer_fault s cs) was_seen ∙ h.0, stay h.1)
  buffered_serves (Err fault.NoMemory) h = stay h
  buffered_serves (Err fault.Broken) h = h
  buffered_serves (Err fault.Disk) h = h
