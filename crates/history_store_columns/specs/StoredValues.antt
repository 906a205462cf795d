-- The values of a column, and the room that they take.
use Rattle.std.specs.Prelude.{ℕ, ◌-◌, ◌/◌, min, List, length, map, vec_len, vec_capacity}
use Rattle.prima_base.specs.declared.value.Value.{Value}
use Rattle.prima_base.specs.declared.value.Value.TheVariants.{Int, Text}
use Rattle.prima_base.specs.declared.value.ColType.{ColType}
use Rattle.prima_base.specs.declared.value.ColType.TheVariants.{Int as IntType, Text as TextType}
use Rattle.prima_base.specs.Order.{bytes_of}
use Rattle.history_store_columns.specs.declared.stored_value.StoredValues.{StoredValues}
use Rattle.history_store_columns.specs.declared.stored_value.StoredValues.TheVariants.{Numbers}
use Rattle.history_store_columns.specs.declared.stored_value.StoredValues.TheVariants.{Texts}
use Rattle.history_store_columns.specs.Texts.{room_unit}

-- the type of the column
abbrev pub kind_of : StoredValues → ColType
kind_of (Numbers numbers) = IntType
kind_of (Texts texts) = TextType

abbrev pub values_in : StoredValues → List Value
values_in (Numbers numbers) = map Int numbers.items
values_in (Texts texts) = map Text texts.items

-- for how many values more there is a place
abbrev pub places_in : StoredValues → ℕ
places_in (Numbers numbers) = vec_capacity numbers - vec_len numbers
places_in (Texts texts) = texts.places

-- for how many bytes of their texts there is room
abbrev pub bytes_in : StoredValues → ℕ
bytes_in (Numbers numbers) = 0
bytes_in (Texts texts) = texts.bytes

-- how many values more there is room for, counted in units where they are texts
abbrev pub spare_in : StoredValues → ℕ
spare_in (Numbers numbers) = vec_capacity numbers - vec_len numbers
spare_in (Texts texts) = min (texts.bytes / room_unit) texts.places

-- a unit of room for each 32 bytes of a text, beside the one of the write
abbrev pub text_room : Value → ℕ
text_room v = length (bytes_of v) / room_unit
