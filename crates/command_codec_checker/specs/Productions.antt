-- Productions of the spelling as values, so that one function can go over lists of any of them.
use Rattle.command_codec_spec.specs.Reading.{Parser}

-- what is spelled, and how it is read
pub record Production : Type 1 where
  pub Spelled : Type 0
  pub parser : Parser Spelled

abbrev pub production_of : {A : Type 0} → Parser A → Production
production_of {A} p = record { Spelled = A; parser = p }
