-- Room in units is room for a place and for the bytes of a text.
use Rattle.std.proofs.Common.{◌≡◌, ◌<◌, ◌≤◌, ℕ, true, length, arith}
use Rattle.std.specs.Prelude.{min}
use Rattle.prima_base.specs.declared.value.Value.{Value}
use Rattle.prima_base.specs.declared.value.Value.TheVariants.{Int, Text}
use Rattle.prima_base.specs.Columns.{has_type}
use Rattle.prima_base.specs.Order.{bytes_of}
use Rattle.history_store_columns.specs.declared.stored_value.StoredValues.{StoredValues}
use Rattle.history_store_columns.specs.declared.stored_value.StoredValues.TheVariants.{Numbers}
use Rattle.history_store_columns.specs.declared.stored_value.StoredValues.TheVariants.{Texts}
use Rattle.history_store_columns.specs.StoredValues.{kind_of, places_in, bytes_in, spare_in}
use Rattle.history_store_columns.specs.StoredValues.{text_room}

pub room_for : (values : StoredValues) (v : Value) (links : ℕ) → has_type (kind_of values) v ≡ true
    → text_room v < min (spare_in values) links
    → (1 ≤ min (places_in values) links) × (length (bytes_of v) ≤ bytes_in values)
room_for (Numbers numbers) (Int n) links typed room = (omega (arith, room), omega arith)
room_for (Numbers numbers) (Text t) links typed room = absurd (cc)
room_for (Texts texts) (Int n) links typed room = absurd (cc)
room_for (Texts texts) (Text t) links typed room = (omega (arith, room), omega (arith, room))
