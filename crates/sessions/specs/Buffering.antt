-- What becomes of a begun transaction as changes are added, and of a cursor as entries are fetched.
use Rattle.std.specs.Prelude.{◌≡◌, ℕ, ◌+◌, List, ◌++◌, length, nat_le, Some, None, Result, Ok, Err}
use Rattle.prima_base.specs.declared.refusal.Refusal.TheVariants.{TooMany}
use Rattle.prima_base.specs.declared.refusal.What.TheVariants.{Changes}
use Rattle.prima_base.specs.Limits.{max_changes}
use Rattle.smo_ops_types.specs.Changes.{PlainChange}
use Rattle.smo_ops_spec.specs.First.{unless}
use Rattle.sessions.specs.declared.vault.VaultFault.{VaultFault}
use Rattle.sessions.specs.declared.vault.VaultFault.TheVariants as fault
use Rattle.sessions.specs.SessionStates.{PlainTransaction, a_transaction}

-- all changes so far are counted; where they would be too many, and where memory runs out, the
-- transaction is as it was
abbrev pub Buffers : PlainTransaction → List PlainChange → Result ℕ VaultFault → PlainTransaction
    → Type 0
Buffers old changes (Ok n) new =
    (unless (nat_le (length old.changes + length changes) max_changes) (TooMany Changes max_changes)
    ≡ None) × (n ≡ length old.changes + length changes)
    × (new ≡ a_transaction old.began (old.changes ++ changes))
Buffers old changes (Err (fault.Refused r)) new =
    (unless (nat_le (length old.changes + length changes) max_changes) (TooMany Changes max_changes)
    ≡ Some r) × (new ≡ old)
Buffers old changes (Err fault.NoMemory) new = new ≡ old
Buffers old changes (Err fault.Broken) new = ⊥
Buffers old changes (Err fault.Disk) new = ⊥
