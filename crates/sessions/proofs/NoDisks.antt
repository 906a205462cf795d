-- Faults of calls that call no disk.
use Rattle.std.specs.Prelude.{ℕ, List, Result, Ok, Err, IfErr}
use Rattle.smo_ops_types.specs.Changes.{PlainChange}
use Rattle.smo_ops_spec.specs.Past.{Past}
use Rattle.temporal_lang_types.specs.Queries.{PlainQuery}
use Rattle.sessions.specs.declared.vault.VaultFault.{VaultFault}
use Rattle.sessions.specs.declared.vault.VaultFault.TheVariants as fault
use Rattle.sessions.specs.SessionStates.{PlainTransaction}
use Rattle.sessions.specs.Vaults.{IsListed}
use Rattle.sessions.specs.Buffering.{Buffers}
use Rattle.sessions.specs.Lines.{IsNoCursor}
use Rattle.sessions.specs.Serving.{IsNoDisks}

pub listing_no_disk : (past : Past) (query : PlainQuery) (e : VaultFault)
    → IsListed past query (Err e) → IsNoDisks e
listing_no_disk past query (fault.Refused r) h = tt
listing_no_disk past query fault.NoMemory h = tt
listing_no_disk past query fault.Broken h = h
listing_no_disk past query fault.Disk h = h

pub buffers_no_disk : (old new : PlainTransaction) (changes : List PlainChange)
    (r : Result ℕ VaultFault) → Buffers old changes r new → IfErr r IsNoDisks
buffers_no_disk old new changes (Ok n) h = tt
buffers_no_disk old new changes (Err (fault.Refused r)) h = tt
buffers_no_disk old new changes (Err fault.NoMemory) h = tt
buffers_no_disk old new changes (Err fault.Broken) h = h
buffers_no_disk old new changes (Err fault.Disk) h = h

pub no_cursor_no_disk : (s : ℕ) (name : List ℕ) (e : VaultFault) → IsNoCursor s name e
    → IsNoDisks e
no_cursor_no_disk s name (fault.Refused r) h = tt
no_cursor_no_disk s name fault.NoMemory h = tt
no_cursor_no_disk s name fault.Broken h = h
no_cursor_no_disk s name fault.Disk h = h
