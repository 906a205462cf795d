-- The bytes of the first items of an image. Its items are the last stamp, its versions, and of each
-- lifeline the head, the keys and the entries; of one that is not there whole there is nothing. A
-- list is written after the count of its items: of one that goes on behind these bytes the count is
-- any that leaves room for the items which stand in them.
use Rattle.std.specs.Prelude.{◌≡◌, ◌⊎◌, ◌<◌, ◌^◌, ◌*◌, ◌++◌, ℕ, zero, suc, List, [], ◌∷◌}
use Rattle.history_store_spec.specs.Store.{Cell}
use Rattle.command_codec_spec.specs.Encoding.{number, list_bytes}
use Rattle.store_image_spec.specs.Images.{StoredLine, Image}
use Rattle.store_image_spec.specs.Encoding.{last_bytes, version_bytes, span_bytes, cell_bytes}
use Rattle.store_image_spec.specs.Encoding.{line_bytes, stored_bytes}

-- ---- lists

-- a part of one thing, or all of it and then what follows
abbrev pub AndThen : (List ℕ → Type 0) → List ℕ → (List ℕ → Type 0) → List ℕ → Type 0
AndThen Part whole Rest bytes =
    Part bytes ⊎ ((more : List ℕ) × (bytes ≡ whole ++ more) × Rest more)

-- no byte
abbrev pub IsNone : List ℕ → Type 0
IsNone bytes = bytes ≡ []

-- the first items of a list, so many at most, and a part of the next
abbrev pub AreFirst : {A : Type 0} → (A → List ℕ → Type 0) → (A → List ℕ) → ℕ → List A → List ℕ
    → Type 0
AreFirst Part encode zero items bytes = IsNone bytes
AreFirst Part encode (suc n) [] bytes = IsNone bytes
AreFirst Part encode (suc n) (a ∷ items) bytes =
    AndThen (Part a) (encode a) (λ more. AreFirst Part encode n items more) bytes

-- a count, of so many bytes, and the first of that many items
abbrev pub BeginsList : {A : Type 0} → ℕ → (A → List ℕ → Type 0) → (A → List ℕ) → List A → List ℕ
    → Type 0
BeginsList width Part encode items bytes = IsNone bytes
    ⊎ ((count : ℕ) × (more : List ℕ) × (count < 2 ^ (8 * width))
    × (bytes ≡ number width count ++ more) × AreFirst Part encode count items more)

-- ---- an image

abbrev pub BeginsColumns : List (List Cell) → List ℕ → Type 0
BeginsColumns [] bytes = IsNone bytes
BeginsColumns (cells ∷ columns) bytes =
    AndThen (BeginsList 8 (λ c. IsNone) cell_bytes cells) (list_bytes 8 cell_bytes cells)
    (λ more. BeginsColumns columns more) bytes

-- what is kept over a lifeline: its head, the keys, and column by column the entries
abbrev pub BeginsLine : StoredLine → List ℕ → Type 0
BeginsLine l bytes =
    AndThen IsNone (line_bytes l.line)
    (AndThen (BeginsList 8 (λ p. IsNone) span_bytes l.keys) (list_bytes 8 span_bytes l.keys)
    (BeginsColumns l.cells)) bytes

-- the bytes are those of the image's first items
abbrev pub BeginsImage : Image → List ℕ → Type 0
BeginsImage image bytes =
    AndThen IsNone (last_bytes image.last)
    (AndThen (BeginsList 4 (λ v. IsNone) version_bytes image.versions)
    (list_bytes 4 version_bytes image.versions)
    (BeginsList 4 BeginsLine stored_bytes image.lines)) bytes
