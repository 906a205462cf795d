-- Records by what they stand for, and payloads that are none of their kind.
use Rattle.std.proofs.Common.{◌≡◌, ◌⊎◌, inl, inr, ℕ, ◌-◌, List, [], ◌∷◌, ◌++◌, length, refl, sym}
use Rattle.std.proofs.Common.{ap, ◌∙◌, arith, IsTrue}
use Rattle.journal.specs.Records.{Record, is_known}
use Rattle.smo_ops_types.specs.Commands.{PlainCommand}
use Rattle.command_codec_spec.specs.Encoding.{command_bytes}
use Rattle.command_codec_spec.specs.Valid.{IsCommand}
use Rattle.command_codec_spec.specs.Found.{Decoding, IsDecoding, bad_at, rest_at, whole}
use Rattle.command_codec_spec.specs.Reading.{Out, Parsed, Unexpected}
use Rattle.command_codec_spec.proofs.Deciding.{decoded, decoding_once, its_own}
use Rattle.store_image_spec.specs.Images.{Image, IsImage}
use Rattle.store_image_spec.specs.Encoding.{image_bytes}
use Rattle.store_image_spec.specs.Reader as reader
use Rattle.archive_core_file_spec.specs.LogRecords.{LogRecord, logged, checkpointed, record_of}
use Rattle.archive_core_file_spec.specs.LogRecords.{records_of}
use Rattle.archive_core_file_spec.specs.LogRecords.{IsEncoded, AreEncoded}
use Rattle.archive_core_file_spec.specs.Opening.{IsNoCommandAt, IsNoImageAt, IsRefusedAt}

-- what is read is an image, of just these bytes
abbrev pub ReadsRight : Type 0
ReadsRight = (bytes : List ℕ) → (i : Image) → (rest : List ℕ) → reader.image bytes ≡ Parsed i rest
    → IsImage i × (bytes ≡ image_bytes i) × (rest ≡ [])

-- each image is read from its bytes
abbrev pub ReadsAll : Type 0
ReadsAll = (i : Image) → IsImage i → reader.image (image_bytes i) ≡ Parsed i []

-- ---- one record

two_kinds : (kind : ℕ) → kind ≡ 1 → kind ≡ 2 → ⊥
two_kinds kind e f = omega (arith, e, f)

-- a command's bytes are refused nowhere
no_command_refused : (c : PlainCommand) (place : ℕ) (bytes : List ℕ) → bytes ≡ command_bytes c
    → IsCommand c → IsNoCommandAt bytes place → ⊥
no_command_refused c place bytes e is (inl bad) = let same =
    decoding_once bytes (whole c) (bad_at place) (is, e) bad in cc
no_command_refused c place bytes e is (inr rest) = let same =
    decoding_once bytes (whole c) (rest_at place) (is, e) rest in cc

-- bytes are refused at one place
no_command_once : (bytes : List ℕ) (p q : ℕ) → IsNoCommandAt bytes p → IsNoCommandAt bytes q → p ≡ q
no_command_once bytes p q (inl h) (inl k) = let same =
    decoding_once bytes (bad_at p) (bad_at q) h k in cc
no_command_once bytes p q (inl h) (inr k) = let same =
    decoding_once bytes (bad_at p) (rest_at q) h k in cc
no_command_once bytes p q (inr h) (inl k) = let same =
    decoding_once bytes (rest_at p) (bad_at q) h k in cc
no_command_once bytes p q (inr h) (inr k) = let same =
    decoding_once bytes (rest_at p) (rest_at q) h k in cc

abbrev stuck : List ℕ → Out Image
stuck rest = Unexpected rest

abbrev got : Image → Out Image
got i = Parsed i []

stuck_once : (a b : List ℕ) → stuck a ≡ stuck b → a ≡ b
stuck_once a b e = cc

got_once : (i j : Image) → got i ≡ got j → i ≡ j
got_once i j e = cc

never_stuck : (rest : List ℕ) (i : Image) → stuck rest ≡ got i → ⊥
never_stuck rest i e = cc

no_image_once : (bytes : List ℕ) (p q : ℕ) → IsNoImageAt bytes p → IsNoImageAt bytes q → p ≡ q
no_image_once bytes p q h k =
    let rest : h.0 ≡ k.0 = stuck_once h.0 k.0 (sym h.1 ∙ k.1) in h.2
    ∙ ap (λ (l : List ℕ). length bytes - length l) rest ∙ sym k.2

pub refused_once : (r : Record) (p q : ℕ) → IsRefusedAt r p → IsRefusedAt r q → p ≡ q
refused_once r p q (inl h) (inl k) = no_command_once r.1 p q h.1 k.1
refused_once r p q (inl h) (inr k) = absurd (two_kinds r.0 h.0 k.0)
refused_once r p q (inr h) (inl k) = absurd (two_kinds r.0 k.0 h.0)
refused_once r p q (inr h) (inr k) = no_image_once r.1 p q h.1 k.1

kind_is : (r : Record) (l : LogRecord) → r ≡ record_of l → r.0 ≡ (record_of l).0
kind_is r l e = ap (λ (q : Record). q.0) e

payload_is : (r : Record) (l : LogRecord) → r ≡ record_of l → r.1 ≡ (record_of l).1
payload_is r l e = ap (λ (q : Record). q.1) e

known_kinds : (kind : ℕ) → IsTrue (is_known kind) → (kind ≡ 1) ⊎ (kind ≡ 2)
known_kinds kind known = grind arith

-- ---- records

pub head_record : (r s : Record) (xs ys : List Record) → r ∷ xs ≡ s ∷ ys → r ≡ s
head_record r s xs ys e = cc

pub tail_records : (r s : Record) (xs ys : List Record) → r ∷ xs ≡ s ∷ ys → xs ≡ ys
tail_records r s xs ys e = cc

module _ (reads : ReadsAll) where
  -- what is spelled is refused nowhere
  pub never_refused : (l : LogRecord) (r : Record) (place : ℕ) → r ≡ record_of l → IsEncoded l
      → IsRefusedAt r place → ⊥
  never_refused (logged c) r place e is (inl h) =
      no_command_refused c place r.1 (payload_is r (logged c) e) is h.1
  never_refused (logged c) r place e is (inr h) = two_kinds r.0 (kind_is r (logged c) e) h.0
  never_refused (checkpointed i) r place e is (inl h) =
      two_kinds r.0 h.0 (kind_is r (checkpointed i) e)
  never_refused (checkpointed i) r place e is (inr h) =
      never_stuck h.1.0 i (sym h.1.1 ∙ ap (λ (l : List ℕ). reader.image l)
      (payload_is r (checkpointed i) e) ∙ reads i is)

  one_image : (i j : Image) → IsImage i → IsImage j → image_bytes i ≡ image_bytes j → i ≡ j
  one_image i j is_i is_j e = got_once i j (sym (reads i is_i)
      ∙ ap (λ (l : List ℕ). reader.image l) e ∙ reads j is_j)

  -- a record stands for one thing
  one_record : (k l : LogRecord) → IsEncoded k → IsEncoded l → record_of k ≡ record_of l → k ≡ l
  one_record (logged c) (logged d) is_k is_l e =
      let same : c ≡ d = its_own c d (command_bytes c) (is_k, refl)
      (is_l, ap (λ (r : Record). r.1) e) in ap logged same
  one_record (logged c) (checkpointed j) is_k is_l e =
      absurd (two_kinds 1 refl (ap (λ (r : Record). r.0) e))
  one_record (checkpointed i) (logged d) is_k is_l e =
      absurd (two_kinds 2 (ap (λ (r : Record). r.0) e) refl)
  one_record (checkpointed i) (checkpointed j) is_k is_l e =
      ap checkpointed (one_image i j is_k is_l (ap (λ (r : Record). r.1) e))

  -- records stand for one list of these
  pub same_records : (a b : List LogRecord) → AreEncoded a → AreEncoded b
      → records_of a ≡ records_of b → a ≡ b
  same_records [] [] are_a are_b e = refl
  same_records [] (l ∷ b) are_a are_b e = absurd (cc)
  same_records (k ∷ a) [] are_a are_b e = absurd (cc)
  same_records (k ∷ a) (l ∷ b) are_a are_b e =
      let first : k ≡ l = one_record k l are_a.0 are_b.0
      (head_record (record_of k) (record_of l) (records_of a) (records_of b) e) in
      let others : a ≡ b = same_records a b are_a.1 are_b.1
      (tail_records (record_of k) (record_of l) (records_of a) (records_of b) e) in λ i.
      first i ∷ others i

  -- the first payload that is none of its kind is one, and so are the records before it
  pub one_payload : (a b : List LogRecord) (p q : Record) (xs ys : List Record) (i j : ℕ)
      → AreEncoded a → AreEncoded b → IsRefusedAt p i → IsRefusedAt q j
      → records_of a ++ p ∷ xs ≡ records_of b ++ q ∷ ys → (a ≡ b) × (p ≡ q)
  one_payload [] [] p q xs ys i j are_a are_b bad_p bad_q e = (refl, head_record p q xs ys e)
  one_payload [] (l ∷ b) p q xs ys i j are_a are_b bad_p bad_q e =
      absurd (never_refused l p i (head_record p (record_of l) xs (records_of b ++ q ∷ ys) e)
      are_b.0 bad_p)
  one_payload (k ∷ a) [] p q xs ys i j are_a are_b bad_p bad_q e =
      absurd (never_refused k q j (sym (head_record (record_of k) q (records_of a ++ p ∷ xs) ys e))
      are_a.0 bad_q)
  one_payload (k ∷ a) (l ∷ b) p q xs ys i j are_a are_b bad_p bad_q e =
      let first : k ≡ l = one_record k l are_a.0 are_b.0
      (head_record (record_of k) (record_of l) (records_of a ++ p ∷ xs) (records_of b ++ q ∷ ys)
      e) in
      let others = one_payload a b p q xs ys i j are_a.1 are_b.1 bad_p bad_q
      (tail_records (record_of k) (record_of l) (records_of a ++ p ∷ xs)
      (records_of b ++ q ∷ ys) e) in
      ((λ i. first i ∷ others.0 i), others.1)

  -- where all are spelled, there is none such
  pub no_payload : (a b : List LogRecord) (p : Record) (xs : List Record) (i : ℕ) → AreEncoded a
      → IsRefusedAt p i → records_of a ≡ records_of b ++ p ∷ xs → ⊥
  no_payload [] [] p xs i are bad e = cc
  no_payload [] (l ∷ b) p xs i are bad e = cc
  no_payload (k ∷ a) [] p xs i are bad e = never_refused k p i
      (sym (head_record (record_of k) p (records_of a) xs e)) are.0 bad
  no_payload (k ∷ a) (l ∷ b) p xs i are bad e =
      no_payload a b p xs i are.1 bad (tail_records (record_of k) (record_of l) (records_of a)
      (records_of b ++ p ∷ xs) e)

-- ---- what a record stands for

abbrev pub IsRead : Record → Type 0
IsRead r = ((l : LogRecord) × IsEncoded l × (r ≡ record_of l)) ⊎ ((place : ℕ) × IsRefusedAt r place)

command_read : (r : Record) → r.0 ≡ 1 → (d : Decoding) → IsDecoding r.1 d → IsRead r
command_read r kind (whole c) is = inl (logged c, is.0, λ i. (kind i, is.1 i))
command_read r kind (bad_at place) is = inr (place, inl (kind, inl is))
command_read r kind (rest_at place) is = inr (place, inl (kind, inr is))

module _ (right : ReadsRight) where
  image_read : (r : Record) → r.0 ≡ 2 → (o : Out Image) → reader.image r.1 ≡ o → IsRead r
  image_read r kind (Parsed i rest) e = let it = right r.1 i rest e in
      inl (checkpointed i, it.0, λ k. (kind k, it.1 k))
  image_read r kind (Unexpected rest) e = inr
      (length r.1 - length rest, inr (kind, (rest, e, refl)))

  by_kind : (r : Record) → (r.0 ≡ 1) ⊎ (r.0 ≡ 2) → IsRead r
  by_kind r (inl kind) = let d = decoded r.1 in command_read r kind d.0 d.1
  by_kind r (inr kind) = image_read r kind (reader.image r.1) refl

  pub read_or_not : (r : Record) → IsTrue (is_known r.0) → IsRead r
  read_or_not r known = by_kind r (known_kinds r.0 known)
