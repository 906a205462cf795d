-- A file that is walked record by record.
use Rattle.std.proofs.Common.{◌≡◌, inr, ℕ, ◌+◌, ◌<◌, ◌^◌, List, [], ◌∷◌, ◌++◌, length, get_or, drop, map}
use Rattle.std.proofs.Common.{sym, ◌∙◌, ap, subst, arith, append_assoc, length-append}
use Rattle.std.proofs.lemmas.List.{drop_more, drop-drop, map-append, length-drop}
use Rattle.std.specs.Int.{w64, to_be_bytes}
use Rattle.journal.specs.Records.{Record, frames, before_gate, body, IsKnown, AreKnown}
use Rattle.journal.specs.Damage.{IsBadFrame, IsDamagedAt}
use Rattle.journal.specs.Reading.{IsRead, AreRead, record_of, records_in, gates}
use Rattle.journal.specs.declared.rec.Rec.{Rec}
use Rattle.journal.proofs.Putting.{before_gate-push, known-push}

gates-push : (at : ℕ) (rs : List Record) (r : Record)
    → gates at (rs ++ r ∷ []) ≡ gates at rs ++ (at + length (frames rs)) ∷ []
gates-push at [] r = ap (λ (n : ℕ). n ∷ []) (omega arith)
gates-push at (s ∷ rs) r =
    ap (λ (l : List ℕ). at ∷ l) (gates-push (at + 10 + length s.1) rs r
    ∙ ap (λ (n : ℕ). gates (at + 10 + length s.1) rs ++ n ∷ [])
    (omega (
      arith,
      length-append (body s) (frames rs),
      length-append (to_be_bytes w64 (length s.1)) s.1,
    )))

-- these records have been read of the file, and this gate stands after them
pub record IsWalked (file : List ℕ) (recs : List Rec) (at gate : ℕ) : Type 0 where
  pub inside : at < length file
  pub is : file ≡ before_gate (records_in recs) ++ drop at file
  pub gate_is : gate ≡ get_or file at 0

-- what was read says where the next gate stands
pub record IsPlaced (recs : List Rec) (at : ℕ) : Type 0 where
  pub known : AreKnown (records_in recs)
  pub places : map (λ rec. rec.at) recs ≡ gates 8 (records_in recs)
  pub end : at ≡ length (before_gate (records_in recs))

module _ (recs : List Rec) (rec : Rec) (more : List Rec) (pushed : more ≡ recs ++ rec ∷ []) where
  now_in : records_in more ≡ records_in recs ++ record_of rec ∷ []
  now_in = ap records_in pushed ∙ map-append record_of recs (rec ∷ [])

  fronted : before_gate (records_in more)
      ≡ before_gate (records_in recs) ++ 1 ∷ body (record_of rec)
  fronted = ap before_gate now_in ∙ before_gate-push (records_in recs) (record_of rec)

  pub next_placed : (at : ℕ) → IsPlaced recs at → rec.at ≡ at → IsKnown rec.kind
      → length rec.payload.items < 2 ^ 64 → IsPlaced more (at + (10 + length rec.payload.items))
  next_placed at was place known short =
      let here : rec.at ≡ 8 + length (frames (records_in recs)) =
      omega (arith, place, was.end) in
      record {
        known = subst AreKnown (sym now_in)
            (known-push (records_in recs) (record_of rec) was.known known short);
        places =
            ap (map (λ rec. rec.at)) pushed ∙ map-append (λ rec. rec.at) recs (rec ∷ [])
            ∙ ap (λ (l : List ℕ). l ++ rec.at ∷ []) was.places
            ∙ ap (λ (n : ℕ). gates 8 (records_in recs) ++ n ∷ []) here
            ∙ sym (ap (gates 8) now_in ∙ gates-push 8 (records_in recs) (record_of rec));
        end =
            omega (
              arith,
              ap length fronted,
              length-append (before_gate (records_in recs)) (1 ∷ body (record_of rec)),
              was.end,
              length-append (to_be_bytes w64 (length rec.payload.items)) rec.payload.items,
            );
      }

module _ (file : List ℕ) (recs : List Rec) (at gate : ℕ) (was : IsWalked file recs at gate) where
  -- an open gate
  after_open : gate ≡ 1 → file ≡ before_gate (records_in recs) ++ 1 ∷ drop (at + 1) file
  after_open is_open =
      was.is ∙ ap (λ (l : List ℕ). before_gate (records_in recs) ++ l)
      (drop_more file at 0 was.inside
      ∙ ap (λ (g : ℕ). g ∷ drop (at + 1) file) (sym was.gate_is ∙ is_open))

  -- a closed one
  pub all_read : (gate ≡ 1 → ⊥) → IsPlaced recs at → AreRead file recs at
  all_read shut placed = record {
    holds = record {
      gate = gate;
      rest = drop (at + 1) file;
      shut = shut;
      file_is =
          was.is ∙ ap (λ (l : List ℕ). before_gate (records_in recs) ++ l)
          (drop_more file at 0 was.inside
          ∙ ap (λ (g : ℕ). g ∷ drop (at + 1) file) (sym was.gate_is));
      known = placed.known;
    };
    places = placed.places;
    end = placed.end;
  }

  pub damaged_after : gate ≡ 1 → IsPlaced recs at → (place : ℕ) → 9 < length file
      → IsBadFrame at (drop (at + 1) file) place → IsDamagedAt file place
  damaged_after is_open placed place long bad = record {
    long = long;
    is =
        inr (record {
          records = records_in recs;
          rest = drop (at + 1) file;
          file_is = after_open is_open;
          known = placed.known;
          bad =
              subst (λ a. IsBadFrame a (drop (at + 1) file) place) placed.end bad;
        });
  }

  pub next_walked : gate ≡ 1 → (rec : Rec)
      → IsRead at (drop (at + 1) file) rec (9 + length rec.payload.items) → (next : ℕ)
      → next ≡ get_or file (at + 10 + length rec.payload.items) 0 → (more : List Rec)
      → more ≡ recs ++ rec ∷ []
      → IsWalked file more (at + (10 + length rec.payload.items)) next
  next_walked is_open rec read next next_is more pushed =
      let rest = drop (at + 1) file in
      let used = 9 + length rec.payload.items in
      let to = at + (10 + length rec.payload.items) in
      let later : drop used rest ≡ drop to file =
      drop-drop used (at + 1) file ∙ ap (λ (n : ℕ). drop n file) (omega arith) in
      record {
        inside = omega (arith, read.inside, length-drop (at + 1) file);
        is =
            after_open is_open ∙ ap (λ (l : List ℕ). before_gate (records_in recs) ++ 1 ∷ l)
            (read.is ∙ ap (λ (l : List ℕ). body (record_of rec) ++ l) later)
            ∙ sym (append_assoc (before_gate (records_in recs)) (1 ∷ body (record_of rec))
            (drop to file))
            ∙ ap (λ (l : List ℕ). l ++ drop to file) (sym (fronted recs rec more pushed));
        gate_is = next_is ∙ ap (λ (n : ℕ). get_or file n 0) (omega arith);
      }
