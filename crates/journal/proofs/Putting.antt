-- The two steps of a put.
use Rattle.std.proofs.Common.{⊎_elim, ◌≡◌, ◌≢◌, inl, inr, ℕ, ◌+◌, ◌-◌, ◌<◌, ◌^◌, List, [], ◌∷◌}
use Rattle.std.proofs.Common.{◌++◌, length, get_or, drop, refl, sym, ◌∙◌, ap, subst, arith}
use Rattle.std.proofs.Common.{append_assoc, length-append, IsTrue}
use Rattle.std.proofs.lemmas.Bool.{cases_eq}
use Rattle.std.specs.Prelude.{Option, Some, None}
use Rattle.disk_model.specs.Meaning.{Meaning, IsValid, Only, BothKnown, IfKnown}
use Rattle.disk_model.specs.MomentLaws.{goes_refl, goes_trans}
use Rattle.journal.specs.Puts.{Puts}
use Rattle.disk_model.specs.Moments.{Leaves}
use Rattle.disk_model.specs.DeviceCalls.{Torn, with_bytes}
use Rattle.journal.specs.SyncedWrites.{Through, Landed}
use Rattle.journal.specs.Records.{Record, Holds, IsKnown, AreKnown, before_gate, frames, body}
use Rattle.journal.specs.Records.{header}
use Rattle.journal.specs.Sealing.{IsSealed, record_in}
use Rattle.std.proofs.Common.{length-take}
use Rattle.journal.specs.JournalFiles.{Stands, WithOrWithout}
use Rattle.journal.proofs.Bytes as bytes

pub frames-push : (rs : List Record) (r : Record) → frames (rs ++ r ∷ []) ≡ frames rs ++ 1 ∷ body r
frames-push [] r = ap (λ (l : List ℕ). 1 ∷ l) (append_nil (body r))
  where
    append_nil : (l : List ℕ) → l ++ [] ≡ l
    append_nil [] = refl
    append_nil (x ∷ l) = ap (λ (m : List ℕ). x ∷ m) (append_nil l)
frames-push (s ∷ rs) r = ap (λ (l : List ℕ). 1 ∷ body s ++ l) (frames-push rs r)
    ∙ ap (λ (l : List ℕ). 1 ∷ l) (sym (append_assoc (body s) (frames rs) (1 ∷ body r)))

pub before_gate-push : (rs : List Record) (r : Record)
    → before_gate (rs ++ r ∷ []) ≡ before_gate rs ++ 1 ∷ body r
before_gate-push rs r = ap (λ (l : List ℕ). header ++ l) (frames-push rs r)
    ∙ sym (append_assoc header (frames rs) (1 ∷ body r))

pub known-push : (rs : List Record) (r : Record) → AreKnown rs → IsKnown r.0 → length r.1 < 2 ^ 64
    → AreKnown (rs ++ r ∷ [])
known-push [] r known is fits = (is, fits, tt)
known-push (s ∷ rs) r known is fits = (known.0, known.1, known-push rs r known.2 is fits)

-- a record after an open gate, and a closed one after it
opened : (rs : List Record) (r : Record) (rest : List ℕ)
    → before_gate rs ++ 1 ∷ ((body r ++ 0 ∷ []) ++ rest) ≡ before_gate (rs ++ r ∷ []) ++ 0 ∷ rest
opened rs r rest =
    ap (λ (l : List ℕ). before_gate rs ++ 1 ∷ l) (append_assoc (body r) (0 ∷ []) rest)
    ∙ sym (append_assoc (before_gate rs) (1 ∷ body r) (0 ∷ rest))
    ∙ ap (λ (l : List ℕ). l ++ 0 ∷ rest) (sym (before_gate-push rs r))

told_some : (step : List ℕ → List ℕ → Type 0) (old new : Option (List ℕ)) (file : List ℕ)
    → old ≡ Some file → BothKnown step old new → (f : List ℕ) × (new ≡ Some f) × step file f
told_some step old new file is told = go new (subst (λ o. BothKnown step o new) is told)
  where
    go : (new : Option (List ℕ)) → BothKnown step (Some file) new
        → (f : List ℕ) × (new ≡ Some f) × step file f
    go None told = absurd told
    go (Some f) told = (f, refl, told)

tells_some : (P : List ℕ → Type 0) (old : Option (List ℕ)) (file : List ℕ) → old ≡ Some file
    → IfKnown old P → P file
tells_some P old file is tells = subst (λ o. IfKnown o P) is tells

-- a record's bytes stand after the closed gate, all of it on the disk
pub record IsStaged (d : Meaning) (at : ℕ) (rs : List Record) (r : Record) : Type 0 where
  pub gate : ℕ
  pub rest : List ℕ
  pub shut : gate ≢ 1
  pub known : AreKnown rs
  pub seen : d.seen ≡ Some (before_gate rs ++ gate ∷ ((body r ++ 0 ∷ []) ++ rest))
  pub durable : Only (before_gate rs ++ gate ∷ ((body r ++ 0 ∷ []) ++ rest)) d.may_leave

module _ (d : Meaning) (at : ℕ) (rs : List Record) (s : Stands d at rs) where
  -- a write after the gate leaves the records as they were
  first_leaves : (n : ℕ) (c : List ℕ) → ((f : List ℕ) × d.may_leave f × Torn (at + 1) n f c)
      → Holds c rs
  first_leaves n c from =
      let torn : Torn (at + 1) n (before_gate rs ++ s.holds.gate ∷ s.holds.rest) c =
      subst (λ f. Torn (at + 1) n f c) (s.durable from.0 from.1 ∙ s.holds.file_is) from.2 in
      record {
        gate = s.holds.gate;
        rest = drop (at + 1) c;
        shut = s.holds.shut;
        file_is =
            bytes.torn_after (before_gate rs) at s.place s.holds.gate n s.holds.rest c torn;
        known =
            s.holds.known;
      }

  first_landed : (new : Meaning) (put : List ℕ) (r : Record) → put ≡ body r ++ 0 ∷ []
      → IsTrue d.is_honest → Landed (at + 1) put d new → IsStaged new at rs r
  first_landed new put r is_put honest landed =
      let file = told_some (λ old new. new ≡ with_bytes old (at + 1) put) d.seen new.seen s.file
      s.seen landed.written in
      let later = drop (at + 1 + length put) (before_gate rs ++ s.holds.gate ∷ s.holds.rest) in
      let is : file.0 ≡ before_gate rs ++ s.holds.gate ∷ ((body r ++ 0 ∷ []) ++ later) =
      file.2 ∙ ap (λ (l : List ℕ). with_bytes l (at + 1) put) s.holds.file_is
      ∙ bytes.written_after (before_gate rs) at s.place s.holds.gate s.holds.rest put
      ∙ ap (λ (l : List ℕ). before_gate rs ++ s.holds.gate ∷ (l ++ later)) is_put in
      record {
        gate = s.holds.gate;
        rest = later;
        shut = s.holds.shut;
        known = s.holds.known;
        seen = file.1 ∙ ap Some is;
        durable = subst (λ l. Only l new.may_leave) is
            (tells_some (λ file. Only file new.may_leave) new.seen file.0 file.1
            (landed.durable honest));
      }

module _ (d : Meaning) (at : ℕ) (rs : List Record) (r : Record)
    (place : at ≡ length (before_gate rs)) (is_known : IsKnown r.0) (fits : length r.1 < 2 ^ 64)
    (s : IsStaged d at rs r) where
  -- the file with the new record, where the gate is open
  with : (rest c : List ℕ) → c ≡ before_gate rs ++ 1 ∷ ((body r ++ 0 ∷ []) ++ rest)
      → Holds c (rs ++ r ∷ [])
  with rest c is = record {
    gate = 0;
    rest = rest;
    shut = omega arith;
    file_is =
        is ∙ opened rs r rest;
    known = known-push rs r s.known is_known fits;
  }

  second_leaves : (c : List ℕ) → ((f : List ℕ) × d.may_leave f × Torn at 1 f c)
      → WithOrWithout rs r c
  second_leaves c from =
      let torn : Torn at 1 (before_gate rs ++ s.gate ∷ ((body r ++ 0 ∷ []) ++ s.rest)) c =
      subst (λ f. Torn at 1 f c) (s.durable from.0 from.1) from.2 in
      let is = bytes.torn_gate (before_gate rs) at place s.gate
      ((body r ++ 0 ∷ []) ++ s.rest) c torn in
      elim (cases_eq (get_or c at 0) 1) [
        | inl is_open ↦ inr (with s.rest c
            (is ∙ ap (λ (g : ℕ). before_gate rs ++ g ∷ ((body r ++ 0 ∷ []) ++ s.rest)) is_open))
        | inr shut ↦ inl (record {
          gate = get_or c at 0;
          rest = (body r ++ 0 ∷ []) ++ s.rest;
          shut =
              shut;
          file_is = is;
          known = s.known;
        })
      ]

  second_landed : (new : Meaning) → IsTrue d.is_honest → Landed at (1 ∷ []) d new
      → Stands new (length (before_gate (rs ++ r ∷ []))) (rs ++ r ∷ [])
  second_landed new honest landed =
      let file = told_some (λ old new. new ≡ with_bytes old at (1 ∷ [])) d.seen new.seen _ s.seen
      landed.written in
      record {
        file = file.0;
        seen = file.1;
        holds = with s.rest file.0 (file.2
            ∙ bytes.written_gate (before_gate rs) at place s.gate 1 ((body r ++ 0 ∷ []) ++ s.rest));
        place = refl;
        durable = tells_some (λ file. Only file new.may_leave) new.seen file.0 file.1
            (landed.durable honest);
      }

pub place-push : (rs : List Record) (r : Record) (put : List ℕ) → put ≡ body r ++ 0 ∷ []
    → length (before_gate (rs ++ r ∷ [])) ≡ length (before_gate rs) + length put
place-push rs r put is =
    omega (
      arith,
      ap length (before_gate-push rs r),
      length-append (before_gate rs) (1 ∷ body r),
      ap length is,
      length-append (body r) (0 ∷ []),
    )

pub fits : (bytes : List ℕ) → IsSealed bytes → length (record_in bytes).1 < 2 ^ 64
fits bytes sealed = omega (
  arith,
  length-take {A = ℕ} (length bytes - 10) (drop 9 bytes),
  sealed.short,
)

-- all that a put's caller needs, from its two steps
module _ (d0 d1 : Meaning) (at : ℕ) (rs : List Record) (put : List ℕ) (r : Record)
    (is_put : put ≡ body r ++ 0 ∷ []) (is_known : IsKnown r.0) (short : length r.1 < 2 ^ 64)
    (honest : IsTrue d0.is_honest) (s : Stands d0 at rs) where
  pub first_moments : Through (at + 1) (length put) d0 d1 → Leaves d0 d1 (WithOrWithout rs r)
  first_moments one c left = inl (first_leaves d0 at rs s (length put) c (one.torn honest c left))

  pub all_moments : (d2 : Meaning) → Through (at + 1) (length put) d0 d1 → Landed (at + 1) put d0 d1
      → Through at 1 d1 d2 → Leaves d0 d2 (WithOrWithout rs r)
  all_moments d2 one landed two c left =
      ⊎_elim (first_moments one c)
      (λ now. second_leaves d1 at rs r s.place is_known short
      (first_landed d0 at rs s d1 put r is_put honest landed) c
      (two.torn (subst IsTrue (sym one.goes.honest) honest) c now))
      (two.goes.joins d0.moment c one.goes.later left)

  pub acknowledged : (d2 : Meaning) (after : ℕ) → after ≡ at + length put
      → Through (at + 1) (length put) d0 d1 → Landed (at + 1) put d0 d1 → Landed at (1 ∷ []) d1 d2
      → Stands d2 after (rs ++ r ∷ [])
  acknowledged d2 after is one landed landed_2 =
      let stands = second_landed d1 at rs r s.place is_known short
      (first_landed d0 at rs s d1 put r is_put honest landed) d2
      (subst IsTrue (sym one.goes.honest) honest) landed_2 in
      record {
        file = stands.file;
        seen = stands.seen;
        holds = stands.holds;
        place =
            omega (arith, is, s.place, place-push rs r put is_put);
        durable = stands.durable;
      }

-- nothing is done
pub nothing_put : (d : Meaning) (at : ℕ) (r : Record) → IsValid d → Puts d d at r
nothing_put d at r law = record {
  goes = goes_refl d law;
  any_moment = λ rs honest s c left.
      inl (subst (λ f. Holds f rs) (sym (s.durable c (law.only_now c left))) s.holds);
}

module _ (d0 d1 : Meaning) (at : ℕ) (put : List ℕ) (r : Record) (is_put : put ≡ body r ++ 0 ∷ [])
    (is_known : IsKnown r.0) (short : length r.1 < 2 ^ 64) where
  pub first_put : Through (at + 1) (length put) d0 d1 → Puts d0 d1 at r
  first_put one = record {
    goes = one.goes;
    any_moment = λ rs honest s. first_moments d0 d1 at rs put r is_put is_known short honest s one;
  }

  pub both_put : (d2 : Meaning) → Through (at + 1) (length put) d0 d1 → Landed (at + 1) put d0 d1
      → Through at 1 d1 d2 → Puts d0 d2 at r
  both_put d2 one landed two = record {
    goes = goes_trans d0 d1 d2 one.goes two.goes;
    any_moment = λ rs honest s.
        all_moments d0 d1 at rs put r is_put is_known short honest s d2 one landed two;
  }
