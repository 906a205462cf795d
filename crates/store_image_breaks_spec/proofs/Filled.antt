-- Entries that fill the periods of keys, each with one value for all of it.
use Rattle.std.proofs.Common.{◌≡◌, ℕ, ◌+◌, ◌<◌, ◌^◌, ◌==◌, true, List, []}
use Rattle.std.proofs.Common.{◌∷◌, length, refl, sym, subst, arith}
use Rattle.std.specs.Prelude.{Option, MatchBool, pos}
use Rattle.relations_spec.specs.Spans.{Span, span}
use Rattle.prima_base.specs.Columns.{Column, IsValid, has_type}
use Rattle.prima_base.specs.declared.value.ColType.{ColType}
use Rattle.prima_base.specs.declared.value.ColType.TheVariants.{Int as IntType, Text as TextType}
use Rattle.prima_base.specs.declared.value.Value.{Value}
use Rattle.prima_base.specs.declared.value.Value.TheVariants.{Int, Text}
use Rattle.history_store_spec.specs.Store.{Cell}
use Rattle.command_codec_spec.proofs.PartFormats.{zero_valid}
use Rattle.store_image_spec.proofs.Checking.{number_itself}
use Rattle.store_image_spec.proofs.Filling.{is_due_so}
use Rattle.store_image_spec.proofs.Formats.{Each, Led}
use Rattle.store_image_spec.proofs.ReadParts.{IsKey, Run}

-- a value of the type
abbrev pub some_value : ColType → Value
some_value IntType = Int (pos 0)
some_value TextType = Text []

some_valid : (type : ColType) → IsValid (some_value type)
some_valid IntType = zero_valid
some_valid TextType = (omega arith, refl)

some_typed : (type : ColType) → has_type type (some_value type) ≡ true
some_typed IntType = refl
some_typed TextType = refl

abbrev pub one_each : ColType → ℕ → List Span → List Cell
one_each type id [] = []
one_each type id (left ∷ keys) =
    record { id = id; value = some_value type; period = left } ∷ one_each type (id + 1) keys

-- keys that were read, one after the other
abbrev pub AreKeys : Option ℕ → List Span → Type 0
AreKeys last keys = Each (IsKey last) (length keys) keys

first_way : (n : ℕ) (P Q : Type 0) → P → MatchBool (n == n) P Q
first_way n P Q h = subst (λ b. MatchBool b P Q) (sym (number_itself n)) h

pub one_each_runs : (last : Option ℕ) (type : ColType) (id : ℕ) (keys : List Span)
    → AreKeys last keys → id + length keys < 2 ^ 64 → Run last type id keys (one_each type id keys)
one_each_runs last type id [] are few = tt
one_each_runs last type id (left ∷ keys) are few = (
  (
    (((let f = few in omega (arith, f)), some_valid type), are.0.0),
    is_due_so last type id left (record { id = id; value = some_value type; period = left })
        (record {
          own = refl;
          start = refl;
          typed = some_typed type;
          period = are.0.1;
          within = omega arith;
        }),
  ),
  first_way left.end (Run last type (id + 1) keys (one_each type (id + 1) keys))
      (Run last type id (span left.end left.end ∷ keys) (one_each type (id + 1) keys))
      (one_each_runs last type (id + 1) keys are.1 (let f = few in omega (arith, f))),
)

-- column by column
abbrev pub ColumnsRun : Option ℕ → List Span → List Column → List (List Cell) → Type 0
ColumnsRun last keys [] l = l ≡ []
ColumnsRun last keys (c ∷ rest) l = Led (λ cells. Run last c.1 0 keys cells)
    (λ cells m. ColumnsRun last keys rest m) l

abbrev pub one_each_column : List Span → List Column → List (List Cell)
one_each_column keys [] = []
one_each_column keys (c ∷ cs) = one_each c.1 0 keys ∷ one_each_column keys cs

pub columns_run : (last : Option ℕ) (keys : List Span) (cs : List Column) → AreKeys last keys
    → length keys < 2 ^ 64 → ColumnsRun last keys cs (one_each_column keys cs)
columns_run last keys [] are few = refl
columns_run last keys (c ∷ cs) are few = (
  one_each_runs last c.1 0 keys are (let f = few in omega (arith, f)),
  columns_run last keys cs are few,
)
