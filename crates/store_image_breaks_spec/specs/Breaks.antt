-- Where bytes that are no image break. What stands before the place are the first items of an
-- image, or of what would be one but that two ids show one row; and none of these agrees with the
-- bytes in its items up to a later place. That holds too of a rest behind an image, where no item
-- begins. By name: the first lifeline of which all bytes are there and two ids show one row, where
-- nothing before it is wrong; its first byte is named, and no other place.
use Rattle.std.specs.Prelude.{◌≡◌, ◌⊎◌, ◌<◌, ◌≤◌, ◌^◌, ◌++◌, ℕ, List, ◌∷◌, length}
use Rattle.std.specs.List.{flat_map}
use Rattle.relations_spec.specs.Sets.{In}
use Rattle.command_codec_spec.specs.Encoding.{number, list_bytes}
use Rattle.store_image_spec.specs.Images.{StoredLine, Image}
use Rattle.store_image_spec.specs.Encoding.{last_bytes, version_bytes, stored_bytes}
use Rattle.store_image_breaks_spec.specs.Agreement.{BeginsImage}
use Rattle.store_image_breaks_spec.specs.Drafts.{IsDraft, ShowsApart}

-- a lifeline of which all bytes are there shows one row twice, and each before it shows its rows
-- apart; it is named
pub record ShowsTwice (bytes rest : List ℕ) : Type 0 where
  pub image : Image
  pub draft : IsDraft image
  pub earlier : List StoredLine
  pub line : StoredLine
  pub later : List StoredLine
  pub lines : image.lines ≡ earlier ++ line ∷ later
  pub apart : (l : StoredLine) → In l earlier → ShowsApart l
  pub count : ℕ
  pub counted : count < 2 ^ 32
  pub enough : length earlier < count
  pub are : bytes ≡ (last_bytes image.last ++ list_bytes 4 version_bytes image.versions
      ++ number 4 count ++ flat_map stored_bytes earlier) ++ rest
  pub more : List ℕ
  pub whole : rest ≡ stored_bytes line ++ more
  pub twice : ShowsApart line → ⊥

-- no lifeline is such a one, and the bytes break behind the first ones, `rest` being left
pub record BreaksAt (bytes rest : List ℕ) : Type 0 where
  pub before : List ℕ
  pub are : bytes ≡ before ++ rest
  pub image : Image
  pub draft : IsDraft image
  pub some : BeginsImage image before
  pub none : (i : Image) → IsDraft i → (first more : List ℕ) → BeginsImage i first
      → bytes ≡ first ++ more → length first ≤ length before
  pub apart : (other : List ℕ) → ShowsTwice bytes other → ⊥

-- the bytes break where `rest` begins
abbrev pub Breaks : List ℕ → List ℕ → Type 0
Breaks bytes rest = BreaksAt bytes rest ⊎ ShowsTwice bytes rest
