-- The text of a value that the code keeps of a refusal.
use Rattle.std.specs.Prelude.{ℕ, List, [], ◌++◌, codes, decimal}
use Rattle.answer_text.specs.RefusalTexts.{what_word, kind_words}
use Rattle.answer_text.specs.declared.refusal.Kept.{Kept}
use Rattle.answer_text.specs.declared.refusal.Kept.TheVariants.{Nothing, Number, Name, What, Kind}

abbrev pub value_text : Kept → List ℕ
value_text Nothing = []
value_text (Number n) = codes " " ++ decimal n
value_text (Name name) = codes " " ++ name.now
value_text (What w) = codes " " ++ what_word w
value_text (Kind k) = codes " " ++ kind_words k
