-- Entries in order, joined where they touch.
use Rattle.std.specs.Prelude.{◌≡◌, ℕ, ◌&&◌, Bool, true, nat_le, max, List, [], ◌∷◌, ◌++◌, take}
use Rattle.std.specs.Prelude.{drop, if◌then◌else◌}
use Rattle.std.specs.Ordering.{is_eq}
use Rattle.std.specs.declared.cmp.Ordering.{Ordering}
use Rattle.relations_spec.specs.Sets.{In}
use Rattle.relations_spec.specs.Spans.{Span, span, covers}
use Rattle.relations_spec.specs.Timed.{Entry}
use Rattle.prima_base.specs.declared.timed_row.TimedRow.{TimedRow}
use Rattle.prima_base.specs.Timed.{vals_cmp}

-- the start of the first, up to the later end
abbrev pub both : Span → Span → Span
both p q = span p.start (max p.end q.end)

-- the second is of the same row, and begins before, or where, the first ends
abbrev pub touch_rows : TimedRow → TimedRow → Bool
touch_rows a b = is_eq (vals_cmp a.values.items b.values.items)
    && nat_le b.period.start a.period.end

abbrev pub join_rows : TimedRow → TimedRow → TimedRow
join_rows a b = record a { period = both a.period b.period }

abbrev pub touch_entries : {X : Type 0} → (X → X → Ordering) → Entry X → Entry X → Bool
touch_entries cmp a b = is_eq (cmp a.item b.item) && nat_le b.period.start a.period.end

abbrev pub join_entries : {X : Type 0} → Entry X → Entry X → Entry X
join_entries a b = record { item = a.item; period = both a.period b.period }

-- a member, and those after it, each joined into the one before that it touches
abbrev pub into : {E : Type 0} → (E → E → Bool) → (E → E → E) → E → List E → List E
into touch join e [] = e ∷ []
into touch join e (f ∷ rest) = if touch e f then into touch join (join e f) rest
    else e ∷ into touch join f rest

abbrev pub merged : {E : Type 0} → (E → E → Bool) → (E → E → E) → List E → List E
merged touch join [] = []
merged touch join (e ∷ rest) = into touch join e rest

-- the first of a list goes on into the others
abbrev pub goes_on : {E : Type 0} → (E → E → Bool) → (E → E → E) → List E → List E → List E
goes_on touch join [] rest = rest
goes_on touch join (e ∷ others) rest = into touch join e rest

-- what the list stands for: what is kept, the last of it joined with what comes next
unfoldable pub standing : {E : Type 0} → (E → E → Bool) → (E → E → E) → ℕ → ℕ → List E → List E
standing touch join kept next rows = take kept rows
    ++ goes_on touch join (drop kept rows) (drop next rows)

-- each row of the second list has the very values of a row of the first that holds at the first
-- moment of its period: what of them is borrowed stays borrowed
abbrev pub HaveValuesOf : List TimedRow → List TimedRow → Type 0
HaveValuesOf before after = (row : TimedRow) → In row after → (old : TimedRow) × In old before
    × (old.values.items ≡ row.values.items) × (covers old.period row.period.start ≡ true)

-- each row of the second list is one of the first
abbrev pub AreAmong : List TimedRow → List TimedRow → Type 0
AreAmong before after = (row : TimedRow) → In row after → In row before
