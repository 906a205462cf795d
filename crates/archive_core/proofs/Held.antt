-- What a read gives, after a mount and after a put.
use Rattle.std.proofs.Common.{◌≡◌, inl, inr, ⊎_elim, ℕ, ◌+◌, ◌<◌, ◌≤◌, ◌^◌, List, [], ◌∷◌, ◌++◌}
use Rattle.std.proofs.Common.{length, take, drop, refl, sym, ap, subst, ◌∙◌, arith, append_assoc}
use Rattle.std.proofs.Common.{length-append, true, false}
use Rattle.std.specs.Prelude.{Option, Some, None, nat_le, if◌then◌else◌}
use Rattle.std.specs.Int.{w64, to_be_bytes}
use Rattle.std.proofs.lemmas.Bool.{cases_lt}
use Rattle.std.proofs.lemmas.Bool.Decides.{nat_tests}
use Rattle.std.proofs.lemmas.List.{take_at}
use Rattle.disk_model.specs.Meaning.{Meaning, IfKnown, BothKnown}
use Rattle.disk_model.specs.DeviceCalls.{with_bytes}
use Rattle.journal.specs.Records.{Record, Holds, StandsFor, IsKnown, before_gate, body}
use Rattle.journal.specs.Records.{empty_journal, opened_file}
use Rattle.journal.specs.RecordLaws.{none_in_nine}
use Rattle.journal.specs.JournalFiles.{needs, with_record}
use Rattle.journal.proofs.Putting.{before_gate-push, known-push}
use Rattle.archive_core.specs.DiskReads.{HoldsAt}

-- a record after an open gate, and a closed one after it
opened : (rs : List Record) (r : Record) (rest : List ℕ)
    → before_gate rs ++ 1 ∷ ((body r ++ 0 ∷ []) ++ rest) ≡ before_gate (rs ++ r ∷ []) ++ 0 ∷ rest
opened rs r rest =
    ap (λ (l : List ℕ). before_gate rs ++ 1 ∷ l) (append_assoc (body r) (0 ∷ []) rest)
    ∙ sym (append_assoc (before_gate rs) (1 ∷ body r) (0 ∷ rest))
    ∙ ap (λ (l : List ℕ). l ++ 0 ∷ rest) (sym (before_gate-push rs r))

-- a record written after the gate
with_one : (file : List ℕ) (at : ℕ) (rs : List Record) (r : Record) → IsKnown r.0
    → length r.1 < 2 ^ 64 → at ≡ length (before_gate rs) → Holds file rs
    → Holds (with_record file at r) (rs ++ r ∷ [])
with_one file at rs r known fits place holds =
    let put : List ℕ = 1 ∷ (body r ++ 0 ∷ []) in
    let rest : List ℕ = drop (at + length put) file in
    let prefix : take at file ≡ before_gate rs = ap (λ (l : List ℕ). take at l) holds.file_is
    ∙ take_at (before_gate rs) (holds.gate ∷ holds.rest) at (sym place) in
    record {
      gate = 0;
      rest = rest;
      shut = λ e. cc;
      file_is = ap (λ (l : List ℕ). l ++ (put ++ rest)) prefix ∙ opened rs r rest;
      known = known-push rs r holds.known known fits;
    }

-- where its gate then is
next_gate : (at next : ℕ) (rs : List Record) (r : Record) → at ≡ length (before_gate rs)
    → next + 1 ≡ at + needs r → next ≡ length (before_gate (rs ++ r ∷ []))
next_gate at next rs r place is =
    omega (
      arith,
      place,
      is,
      ap (λ (l : List ℕ). length l) (before_gate-push rs r),
      length-append (before_gate rs) (1 ∷ body r),
      body_length r,
    )
  where
    body_length : (r : Record) → length (body r) ≡ 9 + length r.1
    body_length r = omega (arith, length-append (to_be_bytes w64 (length r.1)) r.1)

-- what stands in a disk's file that is told
told_file : (step : List ℕ → List ℕ → Type 0) (old new : Option (List ℕ)) (file : List ℕ)
    → old ≡ Some file → BothKnown step old new → (f : List ℕ) × (new ≡ Some f) × step file f
told_file step old new file is told = go new (subst (λ o. BothKnown step o new) is told)
  where
    go : (new : Option (List ℕ)) → BothKnown step (Some file) new → (f : List ℕ) × (new ≡ Some f)
        × step file f
    go None told = absurd told
    go (Some f) told = (f, refl, told)

pub held_more : (old new : Meaning) (at next : ℕ) (rs : List Record) (r : Record) → IsKnown r.0
    → length r.1 < 2 ^ 64 → next + 1 ≡ at + needs r
    → BothKnown (λ o n. n ≡ with_record o at r) old.seen new.seen → HoldsAt old at rs
    → HoldsAt new next (rs ++ r ∷ [])
held_more old new at next rs r known fits place told held =
    let file = told_file (λ o n. n ≡ with_record o at r) old.seen new.seen held.file held.seen
    told in
    record {
      file = file.0;
      seen = file.1;
      holds = subst (λ f. Holds f (rs ++ r ∷ [])) (sym file.2)
          (with_one held.file at rs r known fits held.place held.holds);
      place = next_gate at next rs r held.place place;
    }

-- opening makes the empty journal of a file that has none
opened_short : (file : List ℕ) (rs : List Record) → length file ≤ 9 → rs ≡ []
    → Holds (opened_file file) rs
opened_short file rs short none =
    let e : nat_le (length file) 9 ≡ true = grind (arith, nat_tests, short) in
    subst (λ (l : List Record). Holds (opened_file file) l) (sym none)
    (subst (λ (f : List ℕ). Holds f []) (sym (ap (λ b. if b then empty_journal else file) e))
    (record { gate = 0; rest = []; shut = λ e. cc; file_is = refl; known = tt }))

opened_holds : (file : List ℕ) (rs : List Record) → StandsFor file rs → Holds (opened_file file) rs
opened_holds file rs (inl short) = opened_short file rs short.0 short.1
opened_holds file rs (inr holds) = ⊎_elim
    (λ long. let e : nat_le (length file) 9 ≡ false = grind (arith, nat_tests, long) in
    subst (λ (f : List ℕ). Holds f rs) (sym (ap (λ b. if b then empty_journal else file) e)) holds)
    (λ short. opened_short file rs short (none_in_nine file rs short holds))
    (cases_lt 9 (length file))

pub held_opened : (old new : Meaning) (at : ℕ) (file : List ℕ) (rs : List Record)
    → old.seen ≡ Some file → BothKnown (λ o n. n ≡ opened_file o) old.seen new.seen
    → StandsFor file rs → at ≡ length (before_gate rs) → HoldsAt new at rs
held_opened old new at file rs is told stands place =
    let there = told_file (λ o n. n ≡ opened_file o) old.seen new.seen file is told in
    record {
      file = there.0;
      seen = there.1;
      holds = subst (λ f. Holds f rs) (sym there.2) (opened_holds file rs stands);
      place = place;
    }
