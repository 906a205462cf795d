-- What the changes of a command have made so far of one table's rows, over the rows that are
-- stored.
use Rattle.std.specs.Prelude.{◌≡◌, ◌<◌, ℕ, Bool, true, false, not, ◌&&◌, cond, List, [], ◌∷◌}
use Rattle.std.specs.Prelude.{length, map, drop, slice_index_or, Option, Some, None}
use Rattle.std.specs.List.{filter}
use Rattle.std.specs.Option.{unwrap_or}
use Rattle.std.specs.Map.{lookup, keys_of}
use Rattle.std.specs.BTreeMap.{is_at}
use Rattle.std.specs.Ordering.{is_eq, is_le}
use Rattle.relations_spec.specs.Sets.{In, has}
use Rattle.prima_base.specs.Order.{row_cmp}
use Rattle.prima_base.specs.declared.value.Value.{Value}
use Rattle.prima_base.specs.Columns.{Column as OwnColumn}
use Rattle.cond_expr.specs.declared.expr.Column.{Column as AtomColumn}
use Rattle.cond_expr.specs.declared.expr.CmpOp.TheVariants.{Eq}
use Rattle.cond_expr.specs.AtomColumns.{columns_at}
use Rattle.cond_expr.specs.PinnedParts.{pinned}
use Rattle.cond_expr.specs.Trees.{Test}
use Rattle.history_store.specs.Cuts.{Cut, is_before}
use Rattle.history_store.specs.Handing.{is_value, at_column}
use Rattle.smo_ops_spec.specs.OneRow.{Row, Relation, meets}
use Rattle.version_groups_candidates.specs.Ranges.{cut_at}

-- of rows that are not as they are stored, whether the table has them now
abbrev pub Pending : Type 0
Pending = List (Row × Bool)

-- what is known of a row by whether it is stored, and whether the table has it now
abbrev pub told : Bool → Bool → Option Bool
told true true = None
told true false = Some false
told false true = Some true
told false false = None

-- no change has lost the row
abbrev pub is_kept : Pending → Row → Bool
is_kept known row = unwrap_or (lookup (is_at (row_cmp row)) known) true

-- the table has this relation now: known are the rows by which it differs from what is stored, and
-- no others
abbrev pub LeadsTo : Pending → Relation → Relation → Type 0
LeadsTo known stored now = (row : Row) → lookup (is_at (row_cmp row)) known
    ≡ told (has row_cmp row stored) (has row_cmp row now)

-- the rows that are lost by now, and those that are gained
abbrev pub lost_by_now : Pending → Relation
lost_by_now known = keys_of (filter (λ (e : Row × Bool). not e.1) known)

abbrev pub gained_by_now : Pending → Relation
gained_by_now known = keys_of (filter (λ (e : Row × Bool). e.1) known)

-- what is known of the rows from the first cut on and before the other, where these are there and
-- pass the test
abbrev pub pending_hits : Cut → Cut → (Row → Bool) → Pending → Relation
pending_hits from to passes known = keys_of (filter
    (λ (e : Row × Bool). is_le (row_cmp from.values e.0)
    && (is_before to e.0 && (e.1 && passes e.0))) known)

-- the rows of which it is known that the table has them, and that pass the test, in any order
pub record HavePendingHits (passes : Row → Bool) (known : Pending) (rows : List Row) : Type 0 where
  pub only : (row : Row) → In row rows → In (row, true) known × (passes row ≡ true)
  pub all : (row : Row) → In (row, true) known → passes row ≡ true → In row rows

-- each row of which it is known that the table has it, and that meets the condition, is between the
-- cuts and has each constant to which the condition pins a column
pub record CanBeHits (its : List OwnColumn) (t : Test) (from to : Cut) (known : Pending) :
    Type 0 where
  pub low : (row : Row) → In (row, true) known → meets its t row ≡ true → is_before from row ≡ false
  pub high : (row : Row) → In (row, true) known → meets its t row ≡ true → is_before to row ≡ true
  pub pinned_to : (row : Row) (k : ℕ) (v : Value) → In (row, true) known → meets its t row ≡ true
      → k < length (columns_at 0 its) → ((d : AtomColumn)
      → pinned Eq (slice_index_or (columns_at 0 its) k d) t ≡ Some v) → at_column k row ≡ v ∷ []

-- the row after its value in the column
abbrev pub led_by : List Value → Row → Option Row
led_by [] row = None
led_by (v ∷ vs) row = Some (v ∷ row)

abbrev pub led_of : ℕ → Row → Option Row
led_of column row = led_by (at_column column row) row

-- the entries with what is told of the one row, if there is one
abbrev pub IsToldLed : Option Row → Option Bool → Pending → Pending → Type 0
IsToldLed None told old new = new ≡ old
IsToldLed (Some row) told old new = (q : Row)
    → lookup (is_at (row_cmp q)) new ≡ cond (is_eq (row_cmp row q)) told
    (lookup (is_at (row_cmp q)) old)

-- of a row after a value the same is known as of the row, where it has that value in the column,
-- and else nothing
abbrev pub AreLed : ℕ → Pending → Pending → Type 0
AreLed column known led = (v : Value) (row : Row)
    → lookup (is_at (row_cmp (v ∷ row))) led ≡ cond (is_value v (at_column column row))
    (lookup (is_at (row_cmp row)) known) None

-- rows after their values in a column, each with whether the table has it now
pub record Led : Type 0 where
  pub column : ℕ
  pub rows : Pending

-- the same with what is told of the row too
pub record IsToldToo (row : Row) (told : Option Bool) (old new : Led) : Type 0 where
  pub column : new.column ≡ old.column
  pub rows : IsToldLed (led_of old.column row) told old.rows new.rows

-- rows in an order, each after so many other values, from the one cut on and before the other
pub record PendingRange : Type 0 where
  pub rows : Pending
  pub skip : ℕ
  pub from : Cut
  pub to : Cut

-- those of them that pass the test, without what they are after
abbrev pub range_hits : (Row → Bool) → PendingRange → List Row
range_hits passes r = map (drop r.skip) (pending_hits r.from r.to (λ row. passes (drop r.skip row))
    r.rows)

-- the rows with the constant to which the condition pins the column
pub record IsPinnedRange (its : List OwnColumn) (t : Test) (led : Led) (r : PendingRange) :
    Type 0 where
  pub value : Value
  pub within : led.column < length (columns_at 0 its)
  pub pins : (d : AtomColumn) → pinned Eq (slice_index_or (columns_at 0 its) led.column d) t
      ≡ Some value
  pub is : r ≡ record {
    rows = led.rows;
    skip = 1;
    from = cut_at (value ∷ []) false;
    to =
        cut_at (value ∷ []) true;
  }

-- the rows of the relation that pass the test, in any order
pub record AreHits (passes : Row → Bool) (now : Relation) (hits : List Row) : Type 0 where
  pub only : (row : Row) → In row hits → In row now × (passes row ≡ true)
  pub all : (row : Row) → In row now → passes row ≡ true → In row hits
