-- What calls on cursors answer.
use Rattle.std.proofs.Common.{◌≡◌, ℕ, true, false, List, length, Option, Some, None}
use Rattle.std.proofs.Common.{refl, sym, ap, ◌∙◌, Ok, Err, is_some, true≢false}
use lib.ListN.{length-map}
use Rattle.std.specs.declared.vec.Vec.{Vec}
use Rattle.std.specs.declared.alloc.Global.{Global}
use Rattle.smo_ops_types.specs.Commands.{PlainCommand}
use Rattle.smo_ops_spec.specs.Checks.{Fault}
use Rattle.temporal_lang_types.specs.Queries.{PlainQuery}
use Rattle.temporal_lang_spec.specs.Accepted.{fault_of_query}
use Rattle.prima_base.specs.declared.refusal.Refusal.TheVariants.{CursorOpen}
use Rattle.sessions.specs.declared.vault.KeptRow.{KeptRow}
use Rattle.sessions.specs.declared.vault.VaultFault.{VaultFault}
use Rattle.sessions.specs.declared.vault.VaultFault.TheVariants as fault
use Rattle.sessions.specs.Kept.{kept_entry, kept_entries}
use Rattle.sessions.specs.Lines.{IsNoCursor}
use Rattle.sessions.specs.Shared.{Shared}
use Rattle.sessions.specs.SessionStates.{PlainCursor, a_cursor, PlainSessions, cursor_of}
use Rattle.sessions.specs.SessionStates.{with_opened}
use Rattle.sessions.specs.Requests.{opening, fetching, closing}
use Rattle.sessions.specs.Steps.{Answer, a_world, opened, cursor_fault}
use Rattle.sessions.specs.Steps.{open_fault, tells_periods}
use Rattle.sessions.specs.Vaults.{IsListed}
use Rattle.sessions.specs.Serving.{Serves}

pub there_fault : (s : ℕ) (name : List ℕ) (o : Option PlainCursor) → is_some o ≡ true
    → cursor_fault s name o ≡ None
there_fault s name None h = absurd (true≢false (sym h))
there_fault s name (Some c) h = refl

pub open_already : (s : ℕ) (name : List ℕ) (asked : Fault) (o : Option PlainCursor)
    → is_some o ≡ true → open_fault s name asked o ≡ Some (CursorOpen s name)
open_already s name asked None h = absurd (true≢false (sym h))
open_already s name asked (Some c) h = refl

pub none_open : (o : Option PlainCursor) → is_some o ≡ false → o ≡ None
none_open None h = refl
none_open (Some c) h = absurd (true≢false h)

module _ (needs : PlainCommand → ℕ) (shared : Shared) (it : PlainSessions) (s : ℕ) (name : List ℕ)
    (none : cursor_of it s name ≡ None) where
  pub missing_closing : {A : Type 0} (said : A → Answer) (e : VaultFault) → IsNoCursor s name e
      → Serves needs said (a_world shared it) s (closing name) (Err e) it
  missing_closing said (fault.Refused r) h = (ap (cursor_fault s name) none ∙ ap Some (sym h), refl)
  missing_closing said fault.NoMemory h = refl
  missing_closing said fault.Broken h = h
  missing_closing said fault.Disk h = h

  pub missing_fetching : {A : Type 0} (said : A → Answer) (count : ℕ) (e : VaultFault)
      → IsNoCursor s name e
      → Serves needs said (a_world shared it) s (fetching name count) (Err e) it
  missing_fetching said count (fault.Refused r) h =
      (ap (cursor_fault s name) none ∙ ap Some (sym h), refl)
  missing_fetching said count fault.NoMemory h = refl
  missing_fetching said count fault.Broken h = h
  missing_fetching said count fault.Disk h = h

  pub listing_refused : (query : PlainQuery) (e : VaultFault)
      → IsListed shared.past query (Err e)
      → Serves needs opened (a_world shared it) s (opening name query) (Err e) it
  listing_refused query (fault.Refused r) h =
      (ap (open_fault s name (fault_of_query shared.past query)) none ∙ h, refl)
  listing_refused query fault.NoMemory h = refl
  listing_refused query fault.Broken h = h
  listing_refused query fault.Disk h = h

  pub listing_opened : (query : PlainQuery) (rows : Vec KeptRow Global) (total : ℕ)
      (c : PlainCursor)
      (new : PlainSessions)
      → IsListed shared.past query (Ok rows) → total ≡ length rows.items
      → c ≡ a_cursor (kept_entries rows.items) 0 (tells_periods query.when)
      → new ≡ with_opened s name c it
      → Serves needs opened (a_world shared it) s (opening name query) (Ok total) new
  listing_opened query rows total c new h t e n = (
    ap (open_fault s name (fault_of_query shared.past query)) none ∙ h.0,
    ap opened (t ∙ sym (length-map rows.items kept_entry) ∙ ap length h.1),
    n ∙ ap (λ x. with_opened s name x it)
        (e ∙ ap (λ l. a_cursor l 0 (tells_periods query.when)) h.1),
  )
