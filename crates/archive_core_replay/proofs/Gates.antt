-- The places of the gates of records.
use Rattle.std.proofs.Common.{◌≡◌, ℕ, zero, suc, ◌+◌, ◌<◌, ◌≤◌, List, [], ◌∷◌, length, get_or, take}
use Rattle.std.proofs.Common.{map, ◌∙◌, arith, length-append}
use Rattle.std.specs.Int.{w64, to_be_bytes}
use Rattle.journal.specs.Records.{Record, body, frames, before_gate}
use Rattle.journal.specs.Reading.{record_of, records_in, gates}
use Rattle.journal.specs.declared.rec.Rec.{Rec}

-- a record with its gate has ten bytes more than its payload
frame_length : (r : Record) (rs : List Record)
    → length (frames (r ∷ rs)) ≡ 10 + length r.1 + length (frames rs)
frame_length r rs = omega (
  arith,
  length-append (body r) (frames rs),
  length-append (to_be_bytes w64 (length r.1)) r.1,
)

head_is : (a b : ℕ) (xs ys : List ℕ) → a ∷ xs ≡ b ∷ ys → a ≡ b
head_is a b xs ys e = cc

tail_is : (a b : ℕ) (xs ys : List ℕ) → a ∷ xs ≡ b ∷ ys → xs ≡ ys
tail_is a b xs ys e = cc

gate_from : (at : ℕ) (recs : List Rec) (k : ℕ) (d : Rec) → k < length recs
    → map (λ rec. rec.at) recs ≡ gates at (records_in recs)
    → (get_or recs k d).at ≡ at + length (frames (take k (records_in recs)))
gate_from at [] k d inside places = absurd (omega arith)
gate_from at (r ∷ recs) zero d inside places =
    head_is r.at at (map (λ rec. rec.at) recs)
    (gates (at + 10 + length r.payload.items) (records_in recs)) places ∙ omega arith
gate_from at (r ∷ recs) (suc k) d inside places =
    let further = gate_from (at + 10 + length r.payload.items) recs k d (omega arith)
    (tail_is r.at at (map (λ rec. rec.at) recs)
    (gates (at + 10 + length r.payload.items) (records_in recs)) places) in
    omega (arith, further, frame_length (record_of r) (take k (records_in recs)))

-- the place of the gate of one record is the length of all before it
pub gate_of : (recs : List Rec) (k : ℕ) (d : Rec) → k < length recs
    → map (λ rec. rec.at) recs ≡ gates 8 (records_in recs)
    → (get_or recs k d).at ≡ length (before_gate (take k (records_in recs)))
gate_of recs k d inside places = gate_from 8 recs k d inside places ∙ omega arith

ends_from : (recs : List Rec) (k : ℕ) (d : Rec) → k < length recs
    → length (frames (take k (records_in recs))) + 10 + length (get_or recs k d).payload.items ≤
    length (frames (records_in recs))
ends_from [] k d inside = absurd (omega arith)
ends_from (r ∷ recs) zero d inside = omega (arith, frame_length (record_of r) (records_in recs))
ends_from (r ∷ recs) (suc k) d inside =
    omega (
      arith,
      ends_from recs k d (omega arith),
      frame_length (record_of r) (records_in recs),
      frame_length (record_of r) (take k (records_in recs)),
    )

-- it ends before the last gate
pub ends_before : (recs : List Rec) (k : ℕ) (d : Rec) → k < length recs
    → length (before_gate (take k (records_in recs))) + 10 + length
    (get_or recs k d).payload.items ≤ length (before_gate (records_in recs))
ends_before recs k d inside = omega (arith, ends_from recs k d inside)
