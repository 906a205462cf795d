-- A file opens as one list of records, or it is damaged at one place.
use Rattle.std.proofs.Common.{◌≡◌, ◌⊎◌, inl, inr, ⊎_elim, ℕ, ◌+◌, ◌<◌, List, [], ◌∷◌, ◌++◌, get_or}
use Rattle.std.proofs.Common.{refl, sym, subst, ap, ◌∙◌}
use Rattle.smo_ops_spec.specs.Past.{beginning}
use Rattle.journal.specs.Records.{Record, StandsFor, AreKnown}
use Rattle.journal.specs.Damage.{IsDamagedAt}
use Rattle.journal.specs.RecordLaws.{stands_for_one}
use Rattle.journal.specs.DamageLaws.{not_damaged, damaged_at_one_place}
use Rattle.journal.proofs.FileCases.{stands_or_damaged}
use Rattle.archive_core_file_spec.specs.LogRecords.{LogRecord, logged, records_of, gate_after}
use Rattle.archive_core_file_spec.specs.LogRecords.{AreEncoded}
use Rattle.archive_core_file_spec.specs.Opening.{IsRefusedAt, HasNoEncodingAt, HasFaultAt, Damages}
use Rattle.archive_core_file_spec.specs.Opening.{Opens}
use Rattle.archive_core_file_spec.proofs.RecordsOf.{ReadsRight, ReadsAll, IsRead, read_or_not}
use Rattle.archive_core_file_spec.proofs.RecordsOf.{same_records}
use Rattle.archive_core_file_spec.proofs.RecordsOf.{one_payload, no_payload, refused_once}
use Rattle.archive_core_file_spec.proofs.Histories.{Stops, checked, stops_once, never_stops}

-- records that are spelled alone
pub record Encoded (records : List Record) : Type 0 where
  pub log : List LogRecord
  pub are : AreEncoded log
  pub records_are : records ≡ records_of log

known_of : (file : List ℕ) (records : List Record) → StandsFor file records → AreKnown records
known_of file records (inl none) = subst AreKnown (sym none.1) tt
known_of file records (inr holds) = holds.known

faulty : (file : List ℕ) (records : List Record) (place : ℕ) → StandsFor file records
    → HasFaultAt records place → Damages file place
faulty file records place stands fault = inr (record
    { records = records; stands = stands; fault = fault })

module _ (right : ReadsRight) where
  pub encoded_or_not : (records : List Record) → AreKnown records → Encoded records
      ⊎ ((place : ℕ) × HasNoEncodingAt records place)
  encoded_or_not [] known = inl (record { log = []; are = tt; records_are = refl })
  encoded_or_not (r ∷ records) known = by_payload (encoded_or_not records known.2)
      (read_or_not right r known.0)
    where
      here : (place : ℕ) → IsRefusedAt r place → (p : ℕ) × HasNoEncodingAt (r ∷ records) p
      here place refused = (
        gate_after [] + 10 + place,
        record {
          before = [];
          refused = r;
          after = records;
          records_are = refl;
          encoded = tt;
          within = place;
          is_refused = refused;
          place_is = refl;
        },
      )

      by_payload : Encoded records ⊎ ((place : ℕ) × HasNoEncodingAt records place) → IsRead r
          → Encoded (r ∷ records) ⊎ ((place : ℕ) × HasNoEncodingAt (r ∷ records) place)
      by_payload others (inr it) = inr (here it.0 it.1)
      by_payload others (inl it) = ⊎_elim
          (λ (s : Encoded records). inl (record {
            log = it.0 ∷ s.log;
            are = (it.1, s.are);
            records_are = λ i. it.2 i ∷ s.records_are i;
          }))
          (λ (h : (place : ℕ) × HasNoEncodingAt records place). inr (
            gate_after (it.0 ∷ h.1.before) + 10 + h.1.within,
            record {
              before = it.0 ∷ h.1.before;
              refused = h.1.refused;
              after = h.1.after;
              records_are = λ i. it.2 i ∷ h.1.records_are i;
              encoded = (it.1, h.1.encoded);
              within = h.1.within;
              is_refused = h.1.is_refused;
              place_is = refl;
            },
          ))
          others

  opens_or_not : (file : List ℕ) (records : List Record) → StandsFor file records
      → ((log : List LogRecord) × Opens file log) ⊎ ((place : ℕ) × Damages file place)
  opens_or_not file records stands = ⊎_elim by_log
      (λ (h : (place : ℕ) × HasNoEncodingAt records place).
      inr (h.0, faulty file records h.0 stands (inl h.1)))
      (encoded_or_not records (known_of file records stands))
    where
      by_log : Encoded records → ((log : List LogRecord) × Opens file log)
          ⊎ ((place : ℕ) × Damages file place)
      by_log s = ⊎_elim
          (λ all. inl (
            s.log,
            record {
              stands = subst (StandsFor file) s.records_are stands;
              encoded = s.are;
              accepted = all;
            },
          ))
          (λ (stops : Stops beginning s.log). inr (
            gate_after stops.before,
            faulty file records (gate_after stops.before) stands (inr (record {
              before = stops.before;
              command = stops.command;
              after = stops.after;
              records_are = s.records_are ∙ ap records_of stops.are;
              encoded = subst AreEncoded stops.are s.are;
              accepted = stops.accepted;
              no_image = stops.no_image;
              refusal = stops.refusal;
              refused = stops.refused;
              place_is = refl;
            })),
          ))
          (checked beginning s.log)

  pub opens_or_damaged : (file : List ℕ) → ((i : ℕ) → get_or file i 0 < 256)
      → ((log : List LogRecord) × Opens file log) ⊎ ((place : ℕ) × Damages file place)
  opens_or_damaged file bytes =
      ⊎_elim (λ (h : (records : List Record) × StandsFor file records). opens_or_not file h.0 h.1)
      (λ (h : (place : ℕ) × IsDamagedAt file place). inr (h.0, inl h.1))
      (stands_or_damaged file bytes)

module _ (reads : ReadsAll) where
  pub opens_once : (file : List ℕ) (a b : List LogRecord) → Opens file a → Opens file b → a ≡ b
  opens_once file a b h k = same_records reads a b h.encoded k.encoded
      (stands_for_one file (records_of a) (records_of b) h.stands k.stands)

  fault_once : (records : List Record) (p q : ℕ) → HasFaultAt records p → HasFaultAt records q
      → p ≡ q
  fault_once records p q (inl h) (inl k) =
      let same = one_payload reads h.before k.before h.refused k.refused h.after k.after h.within
      k.within h.encoded k.encoded h.is_refused k.is_refused
      (sym h.records_are ∙ k.records_are) in
      let within : h.within ≡ k.within = refused_once h.refused h.within k.within h.is_refused
      (subst (λ r. IsRefusedAt r k.within) (sym same.1) k.is_refused) in
      h.place_is ∙ ap (λ (l : List LogRecord). gate_after l + 10 + h.within) same.0
      ∙ ap (λ (n : ℕ). gate_after k.before + 10 + n) within ∙ sym k.place_is
  fault_once records p q (inl h) (inr k) =
      absurd (no_payload reads (k.before ++ logged k.command ∷ k.after) h.before h.refused h.after
      h.within k.encoded h.is_refused (sym k.records_are ∙ h.records_are))
  fault_once records p q (inr h) (inl k) =
      absurd (no_payload reads (h.before ++ logged h.command ∷ h.after) k.before k.refused k.after
      k.within h.encoded k.is_refused (sym h.records_are ∙ k.records_are))
  fault_once records p q (inr h) (inr k) =
      let same = same_records reads (h.before ++ logged h.command ∷ h.after)
      (k.before ++ logged k.command ∷ k.after) h.encoded k.encoded
      (sym h.records_are ∙ k.records_are) in
      let before : h.before ≡ k.before =
      stops_once beginning h.before k.before h.command k.command h.after k.after h.refusal k.refusal
      h.accepted k.accepted h.no_image k.no_image h.refused k.refused same in
      h.place_is ∙ ap gate_after before ∙ sym k.place_is

  pub damaged_once : (file : List ℕ) (p q : ℕ) → Damages file p → Damages file q → p ≡ q
  damaged_once file p q (inl h) (inl k) = damaged_at_one_place file p q h k
  damaged_once file p q (inl h) (inr k) = absurd (not_damaged file k.records p k.stands h)
  damaged_once file p q (inr h) (inl k) = absurd (not_damaged file h.records q h.stands k)
  damaged_once file p q (inr h) (inr k) =
      fault_once h.records p q h.fault (subst (λ l. HasFaultAt l q)
      (stands_for_one file k.records h.records k.stands h.stands) k.fault)

  no_fault : (log : List LogRecord) (place : ℕ) (file : List ℕ) → Opens file log
      → HasFaultAt (records_of log) place → ⊥
  no_fault log place file opens (inl h) = no_payload reads log h.before h.refused h.after h.within
      opens.encoded h.is_refused h.records_are
  no_fault log place file opens (inr h) =
      let same = same_records reads log (h.before ++ logged h.command ∷ h.after) opens.encoded
      h.encoded h.records_are in
      never_stops beginning log h.before h.command h.after h.refusal opens.accepted h.no_image
      h.refused same

  pub never_both : (file : List ℕ) (log : List LogRecord) (place : ℕ) → Opens file log
      → Damages file place → ⊥
  never_both file log place opens (inl h) = not_damaged file (records_of log) place opens.stands h
  never_both file log place opens (inr h) =
      no_fault log place file opens (subst (λ l. HasFaultAt l place)
      (stands_for_one file h.records (records_of log) h.stands opens.stands) h.fault)
