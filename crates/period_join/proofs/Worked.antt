-- Worked rows: a row that holds from 5 to 8 and from 12 on, paired with itself; and one period that
-- ends where another begins.
use Rattle.std.specs.Prelude.{◌≡◌, ℕ, List, [], ◌∷◌}
use Rattle.std.proofs.Common.{refl, arith}
use Rattle.relations_spec.specs.Spans.{span, forever}
use Rattle.prima_base.specs.declared.timed_row.TimedRow.{TimedRow}
use Rattle.prima_base_rows.specs.Rows.{vec_of}
use Rattle.temporal_lang_types.specs.declared.relation.Relation.TheVariants.{Before, Meets}
use Rattle.temporal_lang_types.specs.declared.relation.Relation.TheVariants.{Overlaps}
use Rattle.temporal_lang_types.specs.declared.relation.Relation.TheVariants.{Contains, Equals}
use Rattle.period_join.specs.Pairs.{related}

abbrev row : ℕ → ℕ → TimedRow
row start end = record { values = vec_of [] (omega arith); period = span start end }

abbrev twice : List TimedRow
twice = row 5 8 ∷ row 12 forever ∷ []

pub before : related Before twice twice ≡ (0, 1) ∷ []
before = refl

pub meets : related Meets (row 5 7 ∷ []) (row 7 8 ∷ []) ≡ (0, 0) ∷ []
meets = refl

pub equals : related Equals twice twice ≡ (0, 0) ∷ (1, 1) ∷ []
equals = refl

pub contains : related Contains (row 0 9 ∷ []) twice ≡ (0, 0) ∷ []
contains = refl

pub overlaps : related Overlaps (row 6 20 ∷ row 0 6 ∷ []) twice ≡ (0, 1) ∷ (1, 0) ∷ []
overlaps = refl
