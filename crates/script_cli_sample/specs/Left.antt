-- What is left of a sample script at a place.
use Rattle.std.specs.Prelude.{◌≡◌, ℕ, List, [], ◌∷◌, ◌++◌, map, filter, Option, Some, None}
use Rattle.std.specs.Global.{Vec}
use Rattle.script_cli_sample.specs.declared.place.Evolution.{Evolution}
use Rattle.script_cli_sample.specs.declared.place.Evolution.TheVariants as evolution
use Rattle.script_cli_sample.specs.declared.place.Question.{Question}
use Rattle.script_cli_sample.specs.declared.place.Question.TheVariants as question
use Rattle.script_cli_sample.specs.declared.place.Place.{Place}
use Rattle.script_cli_sample.specs.declared.place.Place.TheVariants.{Start, Row, Evolve, Update}
use Rattle.script_cli_sample.specs.declared.place.Place.TheVariants.{Retitle, Ask, End}
use Rattle.script_cli_sample.specs.Statements.{numbers, titles, page_inserted, state_added}
use Rattle.script_cli_sample.specs.Statements.{pages_split}
use Rattle.script_cli_sample.specs.Statements.{title_renamed, cold_split, is_hot, hot_updated}
use Rattle.script_cli_sample.specs.Statements.{checkpoint_made, retitled, hot_then_asked, hot_asked}
use Rattle.script_cli_sample.specs.Statements.{kind_asked, titles_asked, questions, retitlings}
use Rattle.script_cli_sample.specs.Statements.{updates}
use Rattle.script_cli_sample.specs.Statements.{sample_statements}

abbrev pub questions_from : ℕ → Question → List (List ℕ)
questions_from size question.Pages = questions size
questions_from size question.HotThen = hot_then_asked size ∷ hot_asked ∷ kind_asked ∷ titles_asked
    ∷ []
questions_from size question.Hot = hot_asked ∷ kind_asked ∷ titles_asked ∷ []
questions_from size question.Kind = kind_asked ∷ titles_asked ∷ []
questions_from size question.Titles = titles_asked ∷ []

abbrev pub evolutions_from : ℕ → Evolution → List (List ℕ)
evolutions_from size evolution.State = state_added size ∷ pages_split size ∷ title_renamed size
    ∷ cold_split size ∷ []
evolutions_from size evolution.Pages = pages_split size ∷ title_renamed size ∷ cold_split size ∷ []
evolutions_from size evolution.Title = title_renamed size ∷ cold_split size ∷ []
evolutions_from size evolution.Cold = cold_split size ∷ []

abbrev pub left_at : ℕ → Place → List (List ℕ)
left_at size Start = sample_statements size
left_at size (Row i) = map page_inserted (numbers i size)
    ++ (evolutions_from size evolution.State ++ (updates size ++ checkpoint_made
    ∷ (retitlings size ++ questions size)))
left_at size (Evolve e) = evolutions_from size e
    ++ (updates size ++ checkpoint_made ∷ (retitlings size ++ questions size))
left_at size (Update i) = map (hot_updated size) (filter is_hot (numbers i size)) ++ checkpoint_made
    ∷ (retitlings size ++ questions size)
left_at size (Retitle j) = map (retitled size) (numbers j titles) ++ questions size
left_at size (Ask q) = questions_from size q
left_at size End = []

-- these statements begin with this one, and the others are left after it; there are none where it
-- is none
abbrev pub NextIs : ℕ → List (List ℕ) → Option (Vec ℕ × Place) → Type 0
NextIs size statements None = statements ≡ []
NextIs size statements (Some next) = statements ≡ next.0.items ∷ left_at size next.1

-- the same, of a script that goes on after it
abbrev pub Hands : List (List ℕ) → List (List ℕ) → Option (Vec ℕ) → Type 0
Hands old new None = (old ≡ []) × (new ≡ [])
Hands old new (Some text) = old ≡ text.items ∷ new
