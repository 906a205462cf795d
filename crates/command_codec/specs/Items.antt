-- What stands in the lists of a spelling, as a value, so that one function can read lists of any.
use Rattle.command_codec_spec.specs.Reading.{Parser}

-- what is spelled, how it is read, and what is seen of it in what is made
pub record Item (X : Type 0) : Type 1 where
  pub Spelled : Type 0
  pub parser : Parser Spelled
  pub view : X → Spelled

abbrev pub item_of : {X A : Type 0} → Parser A → (X → A) → Item X
item_of {X} {A} p f = record { Spelled = A; parser = p; view = f }
