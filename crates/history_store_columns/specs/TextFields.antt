-- The fields of a buffer of texts.
use Rattle.std.specs.Prelude.{◌≡◌, ℕ, ◌-◌, ◌≤◌, List, [], ◌∷◌, length, take, drop}
use Rattle.std.specs.Prelude.{vec_len, vec_capacity}
use Rattle.prima_base.specs.Bytes.{IsTxt}
use Rattle.history_store_columns.specs.Texts.{Texts}
use Rattle.history_store_columns.specs.declared.text_buffer.TextBuffer.TheInside.{Inside}

-- the parts of the bytes that end at these places, the first from the start on
abbrev pub parts : ℕ → List ℕ → List ℕ → List (List ℕ)
parts start [] bytes = []
parts start (end ∷ ends) bytes = take (end - start) (drop start bytes) ∷ parts end ends bytes

abbrev pub texts_of : Inside → Texts
texts_of a = record {
  items = parts 0 a.ends.items a.bytes.items;
  places = vec_capacity a.ends - vec_len a.ends;
  bytes = vec_capacity a.bytes - vec_len a.bytes;
}

-- the places go up from the start to the end of all bytes
abbrev pub Rise : ℕ → List ℕ → ℕ → Type 0
Rise start [] all = start ≡ all
Rise start (end ∷ ends) all = (start ≤ end) × Rise end ends all

abbrev pub AllTexts : List (List ℕ) → Type 0
AllTexts [] = Unit {0}
AllTexts (text ∷ texts) = IsTxt text × AllTexts texts

pub record AreTexts (a : Inside) : Type 0 where
  pub rise : Rise 0 a.ends.items (length a.bytes.items)
  pub valid : AllTexts (parts 0 a.ends.items a.bytes.items)
