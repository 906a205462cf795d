-- What an item of an image must be, by what was read before it.
use Rattle.std.specs.Prelude.{ℕ, ◌==◌, ◌&&◌, ◌||◌, not, Bool, true, false, List, [], ◌∷◌, map}
use Rattle.std.specs.Prelude.{nat_lt, nat_le, Option, Some, None, is_none}
use Rattle.std.specs.List.{list_all, list_any, flat_map}
use Rattle.std.specs.Ordering.{is_eq}
use Rattle.relations_spec.specs.Spans.{Span, forever}
use Rattle.prima_base.specs.Columns.{has_type}
use Rattle.prima_base.specs.Order.{row_cmp}
use Rattle.prima_base.specs.declared.value.ColType.{ColType}
use Rattle.prima_base.specs.declared.value.Value.{Value}
use Rattle.prima_base.specs.Limits.{max_versions}
use Rattle.schema_catalog.specs.Tables.{Tables}
use Rattle.history_store_spec.specs.Store.{Cell, rows_from}
use Rattle.smo_ops_types.specs.Commands.{evolving, PlainVersion}
use Rattle.smo_ops_spec.specs.Evolutions.{evolution_fault}
use Rattle.smo_ops_spec.specs.Counts.{first_excess}
use Rattle.smo_ops_spec.specs.Inverses.{inverse_fault}
use Rattle.smo_ops_spec.specs.OneRow.{same}
use Rattle.smo_ops_versions_spec.specs.Lifelines.{Lifeline}
use Rattle.store_image_spec.specs.Encoding.{last_number}

-- ---- stamps

-- the moment is at most the last stamp; where there is none, no moment is
abbrev pub is_stamp : Option ℕ → ℕ → Bool
is_stamp None moment = false
is_stamp (Some last) moment = nat_le moment last

abbrev pub is_later : Option ℕ → ℕ → Bool
is_later None moment = true
is_later (Some before) moment = nat_lt before moment

-- what holds to the end, or up to a stamp
abbrev pub is_end : Option ℕ → ℕ → Bool
is_end last moment = moment == forever || is_stamp last moment

-- ---- versions

-- after so many versions, the last of which has this stamp and these tables, the operator is
-- accepted as an EVOLVE of its stamp
abbrev pub is_accepted : ℕ → Option ℕ → Tables → PlainVersion → Bool
is_accepted number before tables v =
    (nat_lt number max_versions && is_later before v.stamp)
    && (is_none (first_excess (evolving v.op v.inverse))
    && (is_none (evolution_fault tables v.op) && is_none (inverse_fault tables v.op v.inverse)))

abbrev pub is_version : Option ℕ → ℕ → Option ℕ → Tables → PlainVersion → Bool
is_version last number before tables v = is_stamp last v.stamp && is_accepted number before tables v

-- ---- lifelines

-- the first and the last version that were read, and the table, are those of the lifeline
abbrev pub is_line : Lifeline → (ℕ × ℕ) × List ℕ → Bool
is_line l read = (read.0.0 == l.first && read.0.1 == last_number l.last) && same read.1 l.table

-- a period of at least one moment, of which no stamp is too late
abbrev pub is_period : Option ℕ → Span → Bool
is_period last p = nat_lt p.start p.end && (is_stamp last p.start && is_end last p.end)

-- the entry that is due: of the key with this id, of whose period this part is not yet filled
abbrev pub is_due : Option ℕ → ColType → ℕ → Span → Cell → Bool
is_due last type id left c =
    (c.id == id && c.period.start == left.start)
    && (has_type type c.value && (is_period last c.period && nat_le c.period.end left.end))

-- ---- rows

-- no row stands among these twice
abbrev pub is_among : List Value → List (List Value) → Bool
is_among row rows = list_any (λ (r : List Value). is_eq (row_cmp row r)) rows

abbrev pub all_apart : List (List Value) → Bool
all_apart [] = true
all_apart (row ∷ rows) = not (is_among row rows) && all_apart rows

-- the moments at which entries begin
abbrev pub starts_of : List (List Cell) → List ℕ
starts_of cells = flat_map (λ (column : List Cell). map (λ (c : Cell). c.period.start) column) cells

-- at none of them two ids show the same row
abbrev pub are_apart : List Span → List (List Cell) → Bool
are_apart keys cells = list_all (λ m. all_apart (rows_from 0 m keys cells)) (starts_of cells)
