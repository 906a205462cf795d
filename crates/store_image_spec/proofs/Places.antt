-- Where the reader of images stops there stands an end of its bytes.
use Rattle.std.proofs.Common.{◌≡◌, ℕ, zero, suc, ◌+◌, ◌*◌, ◌^◌, ◌<◌, ◌≤◌, ◌==◌, Bool, true, false}
use Rattle.std.proofs.Common.{cond, List, [], ◌∷◌, ◌++◌, refl, sym, ap, ◌∙◌, subst, append_assoc}
use Rattle.std.proofs.Common.{arith}
use Rattle.std.specs.Prelude.{Option, Some, None, if◌then◌else◌}
use Rattle.relations_spec.specs.Spans.{Span, span}
use Rattle.prima_base.specs.Bytes.{IsName}
use Rattle.prima_base.specs.Columns.{Column, IsValid}
use Rattle.prima_base.specs.declared.value.ColType.{ColType}
use Rattle.schema_catalog.specs.Tables.{Tables}
use Rattle.history_store_spec.specs.Store.{Cell}
use Rattle.smo_ops_types.specs.Commands.{PlainVersion}
use Rattle.smo_ops_spec.specs.Past.{no_tables}
use Rattle.command_codec_spec.specs.Reading.{Out, Parsed, Unexpected, Parser, IsCorrectParser}
use Rattle.command_codec_spec.specs.Reading.{Explains, and_then, bind, byte, pure, map_to, pair}
use Rattle.command_codec_spec.specs.Reading.{digits, items}
use Rattle.command_codec_spec.specs.Reader.{up_to, number_64, name, value, operator, operators}
use Rattle.command_codec_spec.specs.Encoding.{number, name_bytes, value_bytes, operator_bytes}
use Rattle.command_codec_spec.specs.Valid.{IsOperator}
use Rattle.command_codec_spec.proofs.Correctness.{byte_correct}
use Rattle.command_codec_spec.proofs.Numbers.{number_correct}
use Rattle.command_codec_spec.proofs.PartFormats.{name_correct, value_correct}
use Rattle.command_codec_spec.proofs.CommandFormats.{operator_correct}
use Rattle.smo_ops_versions_spec.specs.Lifelines.{Lifeline, lifelines_of}
use Rattle.store_image_spec.specs.Images.{StoredLine, Image}
use Rattle.store_image_spec.specs.Items.{named_at, item, if_right, checked, missing}
use Rattle.store_image_spec.specs.ItemChecks.{is_version, is_line, is_period, is_due}
use Rattle.store_image_spec.specs.Reader.{number_32, last_arm, last_stamp, version_after}
use Rattle.store_image_spec.specs.Reader.{evolution, version, versions, all_versions, period, key}
use Rattle.store_image_spec.specs.Reader.{keys, cell_of, entry, entries, column_entries, columns}
use Rattle.store_image_spec.specs.Reader.{line_head, a_line, has_apart, stored_line, lines}
use Rattle.store_image_spec.specs.Reader.{all_lines}
use Rattle.store_image_spec.specs.Reader.{nothing_after, an_image, image}
use Rattle.store_image_spec.specs.Reader.{a_span}
use Rattle.store_image_spec.proofs.ReadParts.{most_32, most_64}

-- what is left is an end of the bytes
abbrev pub IsEnd : List ℕ → List ℕ → Type 0
IsEnd ts rest = (prefix : List ℕ) × (ts ≡ prefix ++ rest)

abbrev pub Leaves : {A : Type 0} → List ℕ → Out A → Type 0
Leaves ts (Parsed a rest) = IsEnd ts rest
Leaves ts (Unexpected rest) = IsEnd ts rest

abbrev pub LeavesEnds : {A : Type 0} → Parser A → Type 0
LeavesEnds p = (ts : List ℕ) → Leaves ts (p ts)

pub all_left : (ts : List ℕ) → IsEnd ts ts
all_left ts = ([], refl)

pub end_of_end : (ts us vs : List ℕ) → IsEnd ts us → IsEnd us vs → IsEnd ts vs
end_of_end ts us vs a b = (a.0 ++ b.0, a.1 ∙ ap (λ l. a.0 ++ l) b.1 ∙ sym (append_assoc a.0 b.0 vs))

-- ---- readers

correct_leaves : {A : Type 0} (p : Parser A) (Is : A → Type 0) (encode : A → List ℕ)
    → IsCorrectParser p Is encode → LeavesEnds p
correct_leaves {A} p Is encode correct ts = step (p ts) (correct.explains ts)
  where
    step : (o : Out A) → Explains p Is encode ts o → Leaves ts o
    step (Parsed a rest) x = (encode a, x.1)
    step (Unexpected rest) x = (x.0, x.1)

pub item_leaves : {A : Type 0} (p : Parser A) → LeavesEnds p → LeavesEnds (item p)
item_leaves {A} p h ts = step (p ts) (h ts)
  where
    step : (o : Out A) → Leaves ts o → Leaves ts (named_at ts o)
    step (Parsed a rest) x = x
    step (Unexpected rest) x = all_left ts

pub checked_leaves : {A : Type 0} (right : A → Bool) (p : Parser A) → LeavesEnds p
    → LeavesEnds (checked right p)
checked_leaves {A} right p h ts = step (p ts) (h ts)
  where
    taken : (a : A) (rest : List ℕ) (b : Bool) → IsEnd ts rest
        → Leaves ts (cond b (Parsed a rest) (Unexpected ts))
    taken a rest true x = x
    taken a rest false x = all_left ts

    step : (o : Out A) → Leaves ts o → Leaves ts (if_right ts right o)
    step (Parsed a rest) x = taken a rest (right a) x
    step (Unexpected rest) x = x

pub bind_leaves : {A B : Type 0} (p : Parser A) (f : A → Parser B) → LeavesEnds p
    → ((a : A) → LeavesEnds (f a)) → LeavesEnds (bind p f)
bind_leaves {A} {B} p f h k ts = step (p ts) (h ts)
  where
    after : (us : List ℕ) → IsEnd ts us → (o : Out B) → Leaves us o → Leaves ts o
    after us e (Parsed b rest) x = end_of_end ts us rest e x
    after us e (Unexpected rest) x = end_of_end ts us rest e x

    step : (o : Out A) → Leaves ts o → Leaves ts (and_then o f)
    step (Parsed a rest) x = after rest x (f a rest) (k a rest)
    step (Unexpected rest) x = x

pure_leaves : {A : Type 0} (a : A) → LeavesEnds (pure a)
pure_leaves a ts = all_left ts

pub map_leaves : {A B : Type 0} (f : A → B) (p : Parser A) → LeavesEnds p → LeavesEnds (map_to f p)
map_leaves f p h = bind_leaves p (λ a. pure (f a)) h (λ a. pure_leaves (f a))

pair_leaves : {A B : Type 0} (p : Parser A) (q : Parser B) → LeavesEnds p → LeavesEnds q
    → LeavesEnds (pair p q)
pair_leaves p q h k = bind_leaves p (λ a. map_to (λ b. (a, b)) q) h
    (λ a. map_leaves (λ b. (a, b)) q k)

pub missing_leaves : (A : Type 0) → LeavesEnds (missing {A = A})
missing_leaves A ts = all_left ts

pub none_leaves : (A : Type 0) → LeavesEnds (pure {A = List A} [])
none_leaves A ts = all_left ts

pub if_leaves : {A : Type 0} (b : Bool) (p q : Parser A) → LeavesEnds p → LeavesEnds q
    → LeavesEnds (if b then p else q)
if_leaves true p q h k = h
if_leaves false p q h k = k

pub items_leave : {A : Type 0} (p : Parser A) → LeavesEnds p → (n : ℕ) → LeavesEnds (items p n)
unfolding items
items_leave {A} p h zero = none_leaves A
items_leave {A} p h (suc n) = bind_leaves p (λ a. map_to (λ l. a ∷ l) (items p n)) h
    (λ a. map_leaves (λ l. a ∷ l) (items p n) (items_leave p h n))

digits_leave : (most k : ℕ) → most < 2 ^ (8 * k) → LeavesEnds (digits most k 0)
digits_leave most k small = correct_leaves (digits most k 0) (λ n. n ≤ most) (λ n. number k n)
    (number_correct most k small)

pub number_32_leaves : LeavesEnds number_32
unfolding number_32
number_32_leaves = digits_leave most_32 4 (omega arith)

pub number_64_leaves : LeavesEnds number_64
unfolding number_64
number_64_leaves = digits_leave most_64 8 (omega arith)

-- ---- the parts of an image

pub last_leaves : LeavesEnds last_stamp
unfolding last_stamp
last_leaves = item_leaves (bind (byte (up_to 1)) last_arm)
    (bind_leaves (byte (up_to 1)) last_arm (correct_leaves (byte (up_to 1)) (λ b. up_to 1 b ≡ true)
    (λ b. b ∷ []) (byte_correct (up_to 1) 0 refl))
    (λ tag. if_leaves (tag == 0) (map_to (λ n. None) (digits 0 8 0))
    (map_to Some (digits 18446744073709551614 8 0))
    (map_leaves (λ n. None) (digits 0 8 0) (digits_leave 0 8 (omega arith)))
    (map_leaves Some (digits 18446744073709551614 8 0)
    (digits_leave 18446744073709551614 8 (omega arith)))))

operator_leaves : LeavesEnds operator
operator_leaves = correct_leaves operator IsOperator operator_bytes operator_correct

operators_leave : LeavesEnds operators
unfolding operators
operators_leave = bind_leaves (digits most_32 4 0) (λ n. items operator n)
    (digits_leave most_32 4 (omega arith)) (λ n. items_leave operator operator_leaves n)

pub version_leaves : (last : Option ℕ) (number : ℕ) (before : Option ℕ) (tables : Tables)
    → LeavesEnds (version last number before tables)
unfolding version
version_leaves last number before tables = item_leaves
    (checked (is_version last number before tables) (evolution tables))
    (checked_leaves (is_version last number before tables) (evolution tables)
    (map_leaves (version_after tables) (pair number_64 (pair operator operators))
    (pair_leaves number_64 (pair operator operators) number_64_leaves
    (pair_leaves operator operators operator_leaves operators_leave))))

pub versions_leave : (last : Option ℕ) (n number : ℕ) (before : Option ℕ) (tables : Tables)
    → LeavesEnds (versions last n number before tables)
unfolding versions
versions_leave last zero number before tables = none_leaves PlainVersion
versions_leave last (suc n) number before tables =
    bind_leaves (version last number before tables)
    (λ v. map_to (λ vs. v ∷ vs) (versions last n (number + 1) (Some v.stamp) v.tables))
    (version_leaves last number before tables)
    (λ v. map_leaves (λ vs. v ∷ vs) (versions last n (number + 1) (Some v.stamp) v.tables)
    (versions_leave last n (number + 1) (Some v.stamp) v.tables))

pub all_versions_leave : (last : Option ℕ) → LeavesEnds (all_versions last)
unfolding all_versions
all_versions_leave last = bind_leaves (item number_32) (λ n. versions last n 0 None no_tables)
    (item_leaves number_32 number_32_leaves) (λ n. versions_leave last n 0 None no_tables)

pub period_leaves : LeavesEnds period
unfolding period
period_leaves = map_leaves a_span (pair number_64 number_64)
    (pair_leaves number_64 number_64 number_64_leaves number_64_leaves)

pub keys_leave : (last : Option ℕ) → LeavesEnds (keys last)
unfolding keys key
keys_leave last = bind_leaves (item number_64) (λ n. items (key last) n)
    (item_leaves number_64 number_64_leaves)
    (λ n. items_leave (key last) (item_leaves (checked (is_period last) period)
    (checked_leaves (is_period last) period period_leaves)) n)

pub entry_leaves : (last : Option ℕ) (type : ColType) (id : ℕ) (left : Span)
    → LeavesEnds (entry last type id left)
unfolding entry
entry_leaves last type id left = item_leaves (checked (is_due last type id left)
    (map_to cell_of (pair (pair number_64 value) period)))
    (checked_leaves (is_due last type id left) (map_to cell_of (pair (pair number_64 value) period))
    (map_leaves cell_of (pair (pair number_64 value) period)
    (pair_leaves (pair number_64 value) period
    (pair_leaves number_64 value number_64_leaves
    (correct_leaves value IsValid value_bytes value_correct)) period_leaves)))

pub entries_leave : (last : Option ℕ) (type : ColType) (n id : ℕ) (due : List Span)
    → LeavesEnds (entries last type n id due)
unfolding entries
entries_leave last type zero id [] = none_leaves Cell
entries_leave last type zero id (left ∷ due) = missing_leaves (List Cell)
entries_leave last type (suc n) id [] = missing_leaves (List Cell)
entries_leave last type (suc n) id (left ∷ due) =
    bind_leaves (entry last type id left)
    (λ c. map_to (λ cs. c ∷ cs) (if c.period.end == left.end then entries last type n (id + 1) due
    else entries last type n id (span c.period.end left.end ∷ due)))
    (entry_leaves last type id left)
    (λ c. map_leaves (λ cs. c ∷ cs) (if c.period.end == left.end
    then entries last type n (id + 1) due
    else entries last type n id (span c.period.end left.end ∷ due))
    (if_leaves (c.period.end == left.end) (entries last type n (id + 1) due)
    (entries last type n id (span c.period.end left.end ∷ due))
    (entries_leave last type n (id + 1) due)
    (entries_leave last type n id (span c.period.end left.end ∷ due))))

pub columns_leave : (last : Option ℕ) (due : List Span) (cs : List Column)
    → LeavesEnds (columns last due cs)
unfolding columns column_entries
columns_leave last due [] = none_leaves (List Cell)
columns_leave last due (c ∷ rest) =
    bind_leaves (column_entries last due c.1)
    (λ cells. map_to (λ l. cells ∷ l) (columns last due rest))
    (bind_leaves (item number_64) (λ n. entries last c.1 n 0 due)
    (item_leaves number_64 number_64_leaves) (λ n. entries_leave last c.1 n 0 due))
    (λ cells. map_leaves (λ l. cells ∷ l) (columns last due rest) (columns_leave last due rest))

pub head_leaves : LeavesEnds line_head
unfolding line_head
head_leaves = pair_leaves (pair number_32 number_32) name
    (pair_leaves number_32 number_32 number_32_leaves number_32_leaves)
    (correct_leaves name IsName name_bytes name_correct)

line_leaves : (last : Option ℕ) (due : Lifeline) → LeavesEnds (stored_line last due)
unfolding stored_line
line_leaves last due = checked_leaves has_apart
    (bind (item (checked (is_line due) line_head))
    (λ head. bind (keys last) (λ ks. map_to (a_line due ks) (columns last ks due.columns))))
    (bind_leaves (item (checked (is_line due) line_head))
    (λ head. bind (keys last) (λ ks. map_to (a_line due ks) (columns last ks due.columns)))
    (item_leaves (checked (is_line due) line_head)
    (checked_leaves (is_line due) line_head head_leaves))
    (λ head. bind_leaves (keys last) (λ ks. map_to (a_line due ks) (columns last ks due.columns))
    (keys_leave last)
    (λ ks. map_leaves (a_line due ks) (columns last ks due.columns)
    (columns_leave last ks due.columns))))

lines_leave : (last : Option ℕ) (n : ℕ) (due : List Lifeline) → LeavesEnds (lines last n due)
unfolding lines
lines_leave last zero [] = none_leaves StoredLine
lines_leave last zero (d ∷ due) = missing_leaves (List StoredLine)
lines_leave last (suc n) [] = missing_leaves (List StoredLine)
lines_leave last (suc n) (d ∷ due) =
    bind_leaves (stored_line last d) (λ l. map_to (λ ls. l ∷ ls) (lines last n due))
    (line_leaves last d) (λ l. map_leaves (λ ls. l ∷ ls) (lines last n due)
    (lines_leave last n due))

all_lines_leave : (last : Option ℕ) (due : List Lifeline) → LeavesEnds (all_lines last due)
unfolding all_lines
all_lines_leave last due = bind_leaves (item number_32) (λ n. lines last n due)
    (item_leaves number_32 number_32_leaves) (λ n. lines_leave last n due)

pub nothing_leaves : {A : Type 0} (a : A) → LeavesEnds (nothing_after a)
nothing_leaves a [] = all_left []
nothing_leaves a (b ∷ rest) = all_left (b ∷ rest)

image_leaves : LeavesEnds image
unfolding image
image_leaves = bind_leaves last_stamp (λ last.
    bind (all_versions last) (λ vs. bind (all_lines last (lifelines_of vs))
    (λ ls. nothing_after (an_image last vs ls)))) last_leaves
    (λ last. bind_leaves (all_versions last) (λ vs.
    bind (all_lines last (lifelines_of vs)) (λ ls. nothing_after (an_image last vs ls)))
    (all_versions_leave last)
    (λ vs. bind_leaves (all_lines last (lifelines_of vs))
    (λ ls. nothing_after (an_image last vs ls)) (all_lines_leave last (lifelines_of vs))
    (λ ls. nothing_leaves (an_image last vs ls))))

pub stuck_in_bytes : (bytes rest : List ℕ) → image bytes ≡ Unexpected rest → (prefix : List ℕ)
    × (bytes ≡ prefix ++ rest)
stuck_in_bytes bytes rest e = let P : Out Image
    → Type 0 = λ o. Leaves bytes o in subst P e (image_leaves bytes)
