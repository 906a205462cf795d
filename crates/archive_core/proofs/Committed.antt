-- What is refused, by a command and by the room for its record.
use Rattle.std.proofs.Common.{◌≡◌, ℕ, ◌+◌, ◌<◌, [], ◌∷◌, ap, sym, ◌∙◌, arith, Some, None, Ok, Err}
use Rattle.std.proofs.Common.{true, false}
use Rattle.std.specs.Prelude.{nat_le, ◌↔◌, Result, OnOk}
use Rattle.journal.specs.declared.fault.PutFault.{PutFault}
use Rattle.journal.specs.declared.fault.PutFault.TheVariants.{Full, Disk}
use Rattle.journal.specs.Records.{Record}
use Rattle.std.proofs.lemmas.Bool.Decides.{nat_tests}
use Rattle.prima_base.specs.declared.refusal.Refusal.{Refusal}
use Rattle.prima_base.specs.declared.refusal.Refusal.TheVariants.{JournalFull}
use Rattle.smo_ops_types.specs.Commands.{PlainCommand}
use Rattle.smo_ops_spec.specs.First.{unless}
use Rattle.smo_ops_spec.specs.Past.{Past}
use Rattle.smo_ops_spec.specs.Accepts.{command_fault}
use Rattle.smo_ops_spec.proofs.Firsts.{first_at, first_later, first_alone, none_of_first}
use Rattle.journal.specs.JournalFiles.{needs}
use Rattle.archive_core_file_spec.specs.LogRecords.{logged, record_of}
use Rattle.archive_core_replay.specs.Memory.{new_command_fault}
use Rattle.archive_core_replay.proofs.Memory.{accepted_by_past}
use Rattle.archive_core.specs.declared.fault.CommitFault.{CommitFault}
use Rattle.archive_core.specs.declared.fault.CommitFault.TheVariants as fault
use Rattle.archive_core.specs.Committing.{need_fault, room_fault, commit_fault, IsPut}
use Rattle.archive_core.specs.Checkpointing.{checkpoint_need, Checkpoints}

room_there : (at limit : ℕ) (r : Record) → (limit < at + needs r → ⊥) → room_fault at limit r ≡ None
room_there at limit r fits = let e : nat_le (at + needs r) limit ≡ true =
    grind (arith, nat_tests) in ap (λ b. unless b (JournalFull at (needs r) limit)) e

room_gone : (at limit : ℕ) (r : Record) → limit < at + needs r
    → room_fault at limit r ≡ Some (JournalFull at (needs r) limit)
room_gone at limit r full = let e : nat_le (at + needs r) limit ≡ false =
    grind (arith, nat_tests) in ap (λ b. unless b (JournalFull at (needs r) limit)) e

-- what a put that answered another thing says of the room
not_full : (r : Result (Unit {0}) PutFault) (x : Result (Unit {0}) PutFault) (fault : PutFault)
    (P : Type 0) → r ≡ x → (x ≡ Err fault → ⊥) → ((r ≡ Err fault) ↔ P) → P → ⊥
not_full r x fault P is other both p = other (sym is ∙ both.1 p)

abbrev is_full : ℕ → ℕ → ℕ → Result (Unit {0}) PutFault
is_full at need limit = Err (Full at need limit)

same_numbers : (b m k a n l : ℕ) → is_full b m k ≡ is_full a n l
    → Some (JournalFull b m k) ≡ Some (JournalFull a n l)
same_numbers b m k a n l e =
    let x : b ≡ a = cc in let y : m ≡ n = cc in let z : k ≡ l = cc in λ i.
    Some (JournalFull (x i) (y i) (z i))

module _ (at limit : ℕ) (r : Record) (result : Result (Unit {0}) PutFault)
    (full : (result ≡ Err (Full at (needs r) limit)) ↔ (limit < at + needs r)) where
  -- a record that was put fits
  pub put_fits : (x : Unit {0}) → result ≡ Ok x → room_fault at limit r ≡ None
  put_fits x is = room_there at limit r (not_full result (Ok x) (Full at (needs r) limit)
      (limit < at + needs r) is (λ e. cc) full)

  -- and so does one at which the disk failed
  pub failed_fits : result ≡ Err Disk → room_fault at limit r ≡ None
  failed_fits is = room_there at limit r (not_full result (Err Disk) (Full at (needs r) limit)
      (limit < at + needs r) is (λ e. cc) full)

  -- one that does not fit is refused for it
  pub refused_full : (a n l : ℕ) → result ≡ Err (Full a n l) → limit < at + needs r
      → room_fault at limit r ≡ Some (JournalFull a n l)
  refused_full a n l is beyond = room_gone at limit r beyond
      ∙ same_numbers at (needs r) limit a n l (sym (full.1 beyond) ∙ is)

module _ (past : Past) (at limit : ℕ) (c : PlainCommand) where
  -- where a command is accepted, the room for its record decides
  pub by_room : new_command_fault past c ≡ None → commit_fault past at limit c
      ≡ room_fault at limit (record_of (logged c))
  by_room met = first_later (new_command_fault past c)
      (room_fault at limit (record_of (logged c)) ∷ []) met
      ∙ first_alone (room_fault at limit (record_of (logged c)))

  pub refused : (r : Refusal) → new_command_fault past c ≡ Some r
      → commit_fault past at limit c ≡ Some r
  refused r e = first_at (new_command_fault past c)
      (room_fault at limit (record_of (logged c)) ∷ []) r e

  -- a command that is committed is accepted by its past
  pub committed_by_past : commit_fault past at limit c ≡ None → command_fault past c ≡ None
  committed_by_past e = accepted_by_past past c (none_of_first (new_command_fault past c)
      (room_fault at limit (record_of (logged c)) ∷ []) e).0

-- what a put of an image's record says of the past that it shows
pub checkpoint_answers : (past : Past) (r : Record) (at limit : ℕ)
    (result : Result (Unit {0}) CommitFault) → needs r ≡ checkpoint_need past
    → IsPut r at limit result → Checkpoints past at limit result
checkpoint_answers past r at limit (Ok done) need put = sym (ap (need_fault at limit) need) ∙ put
checkpoint_answers past r at limit (Err (fault.Refused refusal)) need put =
    sym (ap (need_fault at limit) need) ∙ put
checkpoint_answers past r at limit (Err fault.Disk) need put = sym (ap (need_fault at limit) need)
    ∙ put
checkpoint_answers past r at limit (Err fault.Broken) need put = tt
checkpoint_answers past r at limit (Err fault.NoMemory) need put = tt

-- what is so whatever was answered is so where it was Ok
pub so_if_ok : {A E : Type 0} (r : Result A E) (P : Type 0) → P → OnOk r P
so_if_ok (Ok a) P p = p
so_if_ok (Err e) P p = tt
