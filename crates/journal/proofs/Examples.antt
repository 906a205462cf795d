-- The journal of two commands, and what becomes of it where it is changed, by the definitions.
use Rattle.std.proofs.Common.{◌≡◌, inl, inr, ℕ, List, [], ◌∷◌, length, take, drop, refl}
use Rattle.std.proofs.Common.{arith}
use Rattle.journal.specs.Records.{Record, Holds, StandsFor, opened_file, empty_journal}
use Rattle.journal.specs.Damage.{IsDamagedAt}
use Rattle.journal.specs.JournalFiles.{with_record, needs}

-- `AT 1 EVOLVE CREATE TABLE t (a INT)`
abbrev created : Record
created = (1, 0 ∷ 0 ∷ 0 ∷ 0 ∷ 0 ∷ 0 ∷ 0 ∷ 1 ∷ 1 ∷ 1 ∷ 1 ∷ 116 ∷ 1 ∷ 1 ∷ 97 ∷ 0 ∷ 0 ∷ 0 ∷ 0 ∷ 0 ∷ [])

-- `AT 5 INSERT INTO t (a) VALUES (1)`
abbrev inserted : Record
inserted = (
  1,
  0 ∷ 0 ∷ 0 ∷ 0 ∷ 0 ∷ 0 ∷ 0 ∷ 5 ∷ 0 ∷ 0 ∷ 0 ∷ 0 ∷ 1 ∷ 0 ∷ 1 ∷ 116 ∷ 0 ∷ 0 ∷ 0 ∷ 1
      ∷ 1 ∷ 97 ∷ 0 ∷ 0 ∷ 0 ∷ 0 ∷ 0 ∷ 0 ∷ 0 ∷ 0 ∷ 1 ∷ [],
)

-- the eighty bytes, with these three at 7, 38 and 79
abbrev file : ℕ → ℕ → ℕ → List ℕ
file last gate end =
    80 ∷ 82 ∷ 73 ∷ 77 ∷ 65 ∷ 48 ∷ 48 ∷ last ∷ 1 ∷ 1 ∷ 0 ∷ 0 ∷ 0 ∷ 0 ∷ 0 ∷ 0 ∷ 0 ∷ 20
    ∷ 0 ∷ 0 ∷ 0 ∷ 0 ∷ 0 ∷ 0 ∷ 0 ∷ 1 ∷ 1 ∷ 1 ∷ 1 ∷ 116 ∷ 1 ∷ 1 ∷ 97 ∷ 0 ∷ 0 ∷ 0 ∷ 0 ∷ 0
    ∷ gate ∷ 1 ∷ 0 ∷ 0 ∷ 0 ∷ 0 ∷ 0 ∷ 0 ∷ 0 ∷ 31
    ∷ 0 ∷ 0 ∷ 0 ∷ 0 ∷ 0 ∷ 0 ∷ 0 ∷ 5 ∷ 0 ∷ 0 ∷ 0 ∷ 0 ∷ 1 ∷ 0 ∷ 1 ∷ 116 ∷ 0 ∷ 0 ∷ 0 ∷ 1
    ∷ 1 ∷ 97 ∷ 0 ∷ 0 ∷ 0 ∷ 0 ∷ 0 ∷ 0 ∷ 0 ∷ 0 ∷ 1 ∷ end ∷ []

abbrev eighty : List ℕ
eighty = file 49 1 0

eighty_bytes : length eighty ≡ 80
eighty_bytes = refl

both_are_there : Holds eighty (created ∷ inserted ∷ [])
both_are_there = record {
  gate = 0;
  rest = [];
  shut = omega arith;
  file_is = refl;
  known = (refl, omega arith, (refl, omega arith, tt));
}

-- a gate that is neither closed nor open is not open: what stands after it means nothing
one_is_there : Holds (file 49 7 0) (created ∷ [])
one_is_there = record {
  gate = 7;
  rest = drop 39 eighty;
  shut = omega arith;
  file_is = refl;
  known = (refl, omega arith, tt);
}

-- without its last byte the second record has no gate after it: its length is damaged
no_last_gate : IsDamagedAt (take 79 eighty) 40
no_last_gate = record {
  long = omega arith;
  is = inr (record {
    records = created ∷ [];
    rest = take 40 (drop 39 eighty);
    file_is = refl;
    known = (refl, omega arith, tt);
    bad = inr (refl, inr (omega arith), refl);
  });
}

other_header : IsDamagedAt (file 50 1 0) 7
other_header = record {
  long = omega arith;
  is = inl (record { within = omega arith; before = refl; differs = omega arith });
}

nine_bytes_hold_none : StandsFor (take 9 eighty) []
nine_bytes_hold_none = inl (omega arith, refl)

nine_bytes_become_the_empty_journal : opened_file (take 9 eighty) ≡ empty_journal
nine_bytes_become_the_empty_journal = refl

-- the two puts, one after the other
puts_make_eighty : with_record (with_record empty_journal 8 created) 38 inserted ≡ eighty
puts_make_eighty = refl

second_needs : needs inserted ≡ 42
second_needs = refl
