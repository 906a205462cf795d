-- The reader that does not compare rows goes on to behind all items in which bytes agree with an
-- image.
use Rattle.std.proofs.Common.{◌≡◌, inl, inr, ℕ, zero, suc, ◌+◌, ◌*◌, ◌^◌, ◌<◌, ◌≤◌, ◌==◌}
use Rattle.std.proofs.Common.{Bool, true, false, List, [], ◌∷◌, ◌++◌, length, sym, ap, ◌∙◌}
use Rattle.std.proofs.Common.{subst, append_assoc, length-append, arith}
use Rattle.std.specs.Prelude.{Option, Some, None, MatchBool, if◌then◌else◌}
use Rattle.std.specs.List.{flat_map}
use Rattle.relations_spec.specs.Spans.{Span, span}
use Rattle.prima_base.specs.Columns.{Column}
use Rattle.prima_base.specs.declared.value.ColType.{ColType}
use Rattle.schema_catalog.specs.Tables.{Tables}
use Rattle.history_store_spec.specs.Store.{Cell}
use Rattle.smo_ops_types.specs.Commands.{PlainVersion}
use Rattle.smo_ops_spec.specs.Past.{no_tables}
use Rattle.command_codec_spec.specs.Reading.{Out, Parsed, Unexpected, Parser, and_then, bind, pure}
use Rattle.command_codec_spec.specs.Reading.{map_to, items}
use Rattle.command_codec_spec.specs.Encoding.{number, list_bytes}
use Rattle.smo_ops_versions_spec.specs.Lifelines.{Lifeline, lifelines_of}
use Rattle.store_image_spec.specs.Images.{StoredLine, Image}
use Rattle.store_image_spec.specs.Encoding.{last_number, last_bytes, version_bytes, span_bytes}
use Rattle.store_image_spec.specs.Encoding.{cell_bytes, line_bytes, stored_bytes}
use Rattle.store_image_spec.specs.Items.{item, checked, missing}
use Rattle.store_image_spec.specs.ItemChecks.{is_line, is_period}
use Rattle.store_image_spec.specs.Reader.{number_32, last_stamp, version, versions, all_versions}
use Rattle.store_image_spec.specs.Reader.{period, key, keys, entry, entries, column_entries}
use Rattle.store_image_spec.specs.Reader.{columns, line_head, a_line, nothing_after, an_image}
use Rattle.command_codec_spec.specs.Reader.{number_64}
use Rattle.store_image_spec.proofs.Formats.{Reads, reads_item, Each}
use Rattle.store_image_spec.proofs.Places.{IsEnd, Leaves, LeavesEnds, end_of_end, item_leaves}
use Rattle.store_image_spec.proofs.Places.{bind_leaves, map_leaves, missing_leaves, none_leaves}
use Rattle.store_image_spec.proofs.Places.{if_leaves, items_leave, number_32_leaves}
use Rattle.store_image_spec.proofs.Places.{number_64_leaves, last_leaves, version_leaves}
use Rattle.store_image_spec.proofs.Places.{versions_leave, all_versions_leave, keys_leave}
use Rattle.store_image_spec.proofs.Places.{checked_leaves, period_leaves, entry_leaves}
use Rattle.store_image_spec.proofs.Places.{entries_leave, columns_leave, head_leaves}
use Rattle.store_image_spec.proofs.Places.{nothing_leaves}
use Rattle.store_image_spec.proofs.ReadParts.{most_32, most_64, reads_last, reads_32, reads_count}
use Rattle.store_image_spec.proofs.ReadParts.{reads_version, AreRead, AllRead, reads_all_versions}
use Rattle.store_image_spec.proofs.ReadParts.{IsKey, reads_key, KeysRead, reads_keys, reads_entry}
use Rattle.store_image_spec.proofs.ReadParts.{Run, reads_column, ColumnsRead, LineFits}
use Rattle.store_image_spec.proofs.ReadParts.{BodyRead, reads_due, own_head, kept_line, reads_kept}
use Rattle.store_image_spec.proofs.ReadParts.{IsLast}
use Rattle.store_image_breaks_spec.specs.Agreement.{IsNone, AndThen, AreFirst, BeginsList}
use Rattle.store_image_breaks_spec.specs.Agreement.{BeginsColumns, BeginsLine, BeginsImage}
use Rattle.store_image_breaks_spec.proofs.Openly.{open_lines, all_open_lines, open_image}
use Rattle.store_image_breaks_spec.proofs.Filled.{ColumnsRun}
use Rattle.store_image_breaks_spec.proofs.ByteCounts.{few_cells}

-- ---- one after the other

leaves_after : {B : Type 0} (w us : List ℕ) → IsEnd w us → (o : Out B) → Leaves us o → Leaves w o
leaves_after w us e (Parsed b rest) x = end_of_end w us rest e x
leaves_after w us e (Unexpected rest) x = end_of_end w us rest e x

leaves_then : {A B : Type 0} (f : A → Parser B) → ((a : A) → LeavesEnds (f a)) → (w : List ℕ)
    (o : Out A) → Leaves w o → Leaves w (and_then o f)
leaves_then f ends w (Parsed a rest) x = leaves_after w rest x (f a rest) (ends a rest)
leaves_then f ends w (Unexpected rest) x = x

leaves_map : {A B : Type 0} (f : A → B) (w : List ℕ) (o : Out A) → Leaves w o
    → Leaves w (and_then o (λ a. pure (f a)))
leaves_map f w (Parsed a rest) x = x
leaves_map f w (Unexpected rest) x = x

within_none : {A : Type 0} (p : Parser A) → LeavesEnds p → (u w : List ℕ) → IsNone u
    → Leaves w (p (u ++ w))
within_none p ends u w e = subst (λ l. Leaves w (p (l ++ w))) (sym e) (ends w)

module _ {A B : Type 0} (p : Parser A) (f : A → Parser B) (a : A) (bytes : List ℕ)
    (Part Rest : List ℕ → Type 0) (read : (rest : List ℕ) → p (bytes ++ rest) ≡ Parsed a rest)
    (ends : (x : A) → LeavesEnds (f x)) (part : (u w : List ℕ) → Part u → Leaves w (p (u ++ w)))
    (rest : (u w : List ℕ) → Rest u → Leaves w (f a (u ++ w))) where
  within_then : (u w : List ℕ) → AndThen Part bytes Rest u → Leaves w (bind p f (u ++ w))
  within_then u w (inl h) = leaves_then f ends w (p (u ++ w)) (part u w h)
  within_then u w (inr h) =
      let got : p (u ++ w) ≡ Parsed a (h.0 ++ w) = ap (λ l. p (l ++ w)) h.1
      ∙ ap p (append_assoc bytes h.0 w) ∙ read (h.0 ++ w) in
      subst (λ o. Leaves w (and_then o f)) (sym got) (rest h.0 w h.2)

-- ---- bytes that are few

-- of what stands after others there are no more
pub shorter : (u bytes more : List ℕ) → u ≡ bytes ++ more → length u < 2 ^ 64
    → (length bytes < 2 ^ 64) × (length more < 2 ^ 64)
shorter u bytes more e few =
    let a = ap length e ∙ length-append bytes more in
    (omega (arith, a, few), omega (arith, a, few))

module _ {A B : Type 0} (p : Parser A) (f : A → Parser B) (a : A) (bytes : List ℕ)
    (Part Rest : List ℕ → Type 0)
    (read : length bytes < 2 ^ 64 → (rest : List ℕ) → p (bytes ++ rest) ≡ Parsed a rest)
    (ends : (x : A) → LeavesEnds (f x))
    (part : (u w : List ℕ) → length u < 2 ^ 64 → Part u → Leaves w (p (u ++ w)))
    (rest : (u w : List ℕ) → length u < 2 ^ 64 → Rest u → Leaves w (f a (u ++ w))) where
  within_few : (u w : List ℕ) → length u < 2 ^ 64 → AndThen Part bytes Rest u
      → Leaves w (bind p f (u ++ w))
  within_few u w few (inl h) = leaves_then f ends w (p (u ++ w)) (part u w few h)
  within_few u w few (inr h) =
      let s = shorter u bytes h.0 h.1 few in
      let got : p (u ++ w) ≡ Parsed a (h.0 ++ w) = ap (λ l. p (l ++ w)) h.1
      ∙ ap p (append_assoc bytes h.0 w) ∙ read s.0 (h.0 ++ w) in
      subst (λ o. Leaves w (and_then o f)) (sym got) (rest h.0 w s.1 h.2)

-- ---- lists

module _ {A : Type 0} (counted : Parser ℕ) (width most : ℕ)
    (rn : Reads counted (λ n. n ≤ most) (λ n. number width n))
    (fits : (n : ℕ) → n < 2 ^ (8 * width) → n ≤ most) (ends : LeavesEnds counted)
    (p : ℕ → Parser (List A)) (all_end : (n : ℕ) → LeavesEnds (p n)) (Part : A → List ℕ → Type 0)
    (encode : A → List ℕ) (l : List A)
    (first : (n : ℕ) (u w : List ℕ) → length u < 2 ^ 64 → AreFirst Part encode n l u
    → Leaves w (p n (u ++ w))) where
  within_list : (u w : List ℕ) → length u < 2 ^ 64 → BeginsList width Part encode l u
      → Leaves w (bind counted p (u ++ w))
  within_list u w few (inl e) = leaves_then p all_end w (counted (u ++ w))
      (within_none counted ends u w e)
  within_list u w few (inr h) =
      let got : counted (u ++ w) ≡ Parsed h.0 (h.1 ++ w) = ap (λ x. counted (x ++ w)) h.3
      ∙ ap counted (append_assoc (number width h.0) h.1 w)
      ∙ rn.complete h.0 (fits h.0 h.2) (h.1 ++ w) in
      subst (λ o. Leaves w (and_then o p)) (sym got)
      (first h.0 h.1 w (shorter u (number width h.0) h.1 h.3 few).1 h.4)

module _ {A : Type 0} (p : Parser A) (Is : A → Type 0) (encode : A → List ℕ)
    (r : Reads p Is encode) (ends : LeavesEnds p) where
  within_items : (n : ℕ) (l : List A) (u w : List ℕ) → Each Is (length l) l
      → AreFirst (λ a. IsNone) encode n l u → Leaves w (items p n (u ++ w))
  unfolding items
  within_items zero l u w h e = within_none {A = List A} (pure []) (none_leaves A) u w e
  within_items (suc n) [] u w h e = within_none (items p (suc n)) (items_leave p ends (suc n)) u w e
  within_items (suc n) (a ∷ l) u w h e =
      within_then p (λ x. map_to (λ m. x ∷ m) (items p n)) a (encode a) IsNone
      (AreFirst (λ x. IsNone) encode n l) (r.complete a h.0)
      (λ x. map_leaves (λ m. x ∷ m) (items p n) (items_leave p ends n)) (within_none p ends)
      (λ k y i. leaves_map (λ m. a ∷ m) y (items p n (k ++ y)) (within_items n l k y h.1 i)) u w e

-- ---- versions

within_versions : (last : Option ℕ) (n number : ℕ) (before : Option ℕ) (tables : Tables)
    (l : List PlainVersion) (u w : List ℕ) → AreRead last (length l) number before tables l
    → AreFirst (λ v. IsNone) version_bytes n l u
    → Leaves w (versions last n number before tables (u ++ w))
unfolding versions
within_versions last zero number before tables l u w h e =
    within_none {A = List PlainVersion} (pure []) (none_leaves PlainVersion) u w e
within_versions last (suc n) number before tables [] u w h e =
    within_none (versions last (suc n) number before tables)
    (versions_leave last (suc n) number before tables) u w e
within_versions last (suc n) number before tables (v ∷ l) u w h e =
    within_then (version last number before tables)
    (λ x. map_to (λ vs. x ∷ vs) (versions last n (number + 1) (Some x.stamp) x.tables)) v
    (version_bytes v) IsNone (AreFirst (λ x. IsNone) version_bytes n l)
    ((reads_version last number before tables).complete v h.0)
    (λ x. map_leaves (λ vs. x ∷ vs) (versions last n (number + 1) (Some x.stamp) x.tables)
    (versions_leave last n (number + 1) (Some x.stamp) x.tables))
    (within_none (version last number before tables) (version_leaves last number before tables))
    (λ k y i. leaves_map (λ vs. v ∷ vs) y
    (versions last n (number + 1) (Some v.stamp) v.tables (k ++ y))
    (within_versions last n (number + 1) (Some v.stamp) v.tables l k y h.1 i)) u w e

count_32 : Reads (item number_32) (λ n. n ≤ most_32) (λ n. number 4 n)
count_32 = reads_item number_32 (λ n. n ≤ most_32) (λ n. number 4 n) reads_32

fits_32 : (n : ℕ) → n < 2 ^ (8 * 4) → n ≤ most_32
fits_32 n h = omega (arith, h)

fits_64 : (n : ℕ) → n < 2 ^ (8 * 8) → n ≤ most_64
fits_64 n h = omega (arith, h)

within_all_versions : (last : Option ℕ) (l : List PlainVersion) → AllRead last l
    → (u w : List ℕ) → length u < 2 ^ 64 → BeginsList 4 (λ v. IsNone) version_bytes l u
    → Leaves w (all_versions last (u ++ w))
unfolding all_versions
within_all_versions last l h =
    within_list (item number_32) 4 most_32 count_32 fits_32 (item_leaves number_32 number_32_leaves)
    (λ n. versions last n 0 None no_tables) (λ n. versions_leave last n 0 None no_tables)
    (λ v. IsNone) version_bytes l
    (λ n u w few e. within_versions last n 0 None no_tables l u w h.1 e)

-- ---- keys and entries

key_leaves : (last : Option ℕ) → LeavesEnds (key last)
unfolding key
key_leaves last = item_leaves (checked (is_period last) period)
    (checked_leaves (is_period last) period period_leaves)

within_keys : (last : Option ℕ) (l : List Span) → KeysRead last l → (u w : List ℕ)
    → length u < 2 ^ 64 → BeginsList 8 (λ p. IsNone) span_bytes l u
    → Leaves w (keys last (u ++ w))
unfolding keys
within_keys last l h =
    within_list (item number_64) 8 most_64 reads_count fits_64
    (item_leaves number_64 number_64_leaves) (λ n. items (key last) n)
    (λ n. items_leave (key last) (key_leaves last) n) (λ p. IsNone) span_bytes l
    (λ n u w few e. within_items (key last) (IsKey last) span_bytes (reads_key last)
    (key_leaves last) n l u w h.1 e)

either_way : {A : Type 0} (b : Bool) (p q : Parser A) (P Q : Type 0) (ts w : List ℕ)
    → (P → Leaves w (p ts)) → (Q → Leaves w (q ts)) → MatchBool b P Q
    → Leaves w ((if b then p else q) ts)
either_way true p q P Q ts w f g h = f h
either_way false p q P Q ts w f g h = g h

within_entries : (last : Option ℕ) (type : ColType) (n id : ℕ) (due : List Span)
    (cells : List Cell) (u w : List ℕ) → Run last type id due cells
    → AreFirst (λ c. IsNone) cell_bytes n cells u → Leaves w (entries last type n id due (u ++ w))
unfolding entries
within_entries last type zero id [] cells u w h e =
    within_none {A = List Cell} (pure []) (none_leaves Cell) u w e
within_entries last type zero id (left ∷ due) cells u w h e =
    within_none {A = List Cell} missing (missing_leaves (List Cell)) u w e
within_entries last type (suc n) id [] [] u w h e =
    within_none {A = List Cell} missing (missing_leaves (List Cell)) u w e
within_entries last type (suc n) id [] (c ∷ cells) u w h e = absurd h
within_entries last type (suc n) id (left ∷ due) [] u w h e = absurd h
within_entries last type (suc n) id (left ∷ due) (c ∷ cells) u w h e =
    within_then (entry last type id left)
    (λ x. map_to (λ cs. x ∷ cs) (if x.period.end == left.end
    then entries last type n (id + 1) due
    else entries last type n id (span x.period.end left.end ∷ due))) c
    (cell_bytes c) IsNone (AreFirst (λ x. IsNone) cell_bytes n cells)
    ((reads_entry last type id left).complete c h.0)
    (λ x. map_leaves (λ cs. x ∷ cs) (if x.period.end == left.end
    then entries last type n (id + 1) due
    else entries last type n id (span x.period.end left.end ∷ due))
    (if_leaves (x.period.end == left.end) (entries last type n (id + 1) due)
    (entries last type n id (span x.period.end left.end ∷ due))
    (entries_leave last type n (id + 1) due)
    (entries_leave last type n id (span x.period.end left.end ∷ due))))
    (within_none (entry last type id left) (entry_leaves last type id left))
    (λ k y i. leaves_map (λ cs. c ∷ cs) y ((if c.period.end == left.end
    then entries last type n (id + 1) due
    else entries last type n id (span c.period.end left.end ∷ due)) (k ++ y))
    (either_way (c.period.end == left.end) (entries last type n (id + 1) due)
    (entries last type n id (span c.period.end left.end ∷ due))
    (Run last type (id + 1) due cells)
    (Run last type id (span c.period.end left.end ∷ due) cells) (k ++ y) y
    (λ r. within_entries last type n (id + 1) due cells k y r i)
    (λ r. within_entries last type n id (span c.period.end left.end ∷ due) cells k y r i) h.1))
    u w e

column_leaves : (last : Option ℕ) (due : List Span) (type : ColType)
    → LeavesEnds (column_entries last due type)
unfolding column_entries
column_leaves last due type = bind_leaves (item number_64) (λ n. entries last type n 0 due)
    (item_leaves number_64 number_64_leaves) (λ n. entries_leave last type n 0 due)

within_column : (last : Option ℕ) (due : List Span) (type : ColType) (cells : List Cell)
    → Run last type 0 due cells → (u w : List ℕ) → length u < 2 ^ 64
    → BeginsList 8 (λ c. IsNone) cell_bytes cells u
    → Leaves w (column_entries last due type (u ++ w))
unfolding column_entries
within_column last due type cells h =
    within_list (item number_64) 8 most_64 reads_count fits_64
    (item_leaves number_64 number_64_leaves) (λ n. entries last type n 0 due)
    (λ n. entries_leave last type n 0 due) (λ c. IsNone) cell_bytes cells
    (λ n u w few e. within_entries last type n 0 due cells u w h e)

within_columns : (last : Option ℕ) (due : List Span) (cs : List Column) (l : List (List Cell))
    (u w : List ℕ) → ColumnsRun last due cs l → length u < 2 ^ 64 → BeginsColumns l u
    → Leaves w (columns last due cs (u ++ w))
unfolding columns
within_columns last due [] [] u w h few e = within_none {A = List (List Cell)} (pure [])
    (none_leaves (List Cell)) u w e
within_columns last due [] (x ∷ l) u w h few e = absurd (let q : x ∷ l ≡ [] = h in cc)
within_columns last due (c ∷ cs) [] u w h few e = absurd h
within_columns last due (c ∷ cs) (x ∷ l) u w h few e =
    within_few (column_entries last due c.1) (λ y. map_to (λ m. y ∷ m) (columns last due cs)) x
    (list_bytes 8 cell_bytes x) (BeginsList 8 (λ y. IsNone) cell_bytes x) (BeginsColumns l)
    (λ short. (reads_column last due c.1).complete x (few_cells x short, h.0))
    (λ y. map_leaves (λ m. y ∷ m) (columns last due cs) (columns_leave last due cs))
    (within_column last due c.1 x h.0)
    (λ k y short i. leaves_map (λ m. x ∷ m) y (columns last due cs (k ++ y))
    (within_columns last due cs l k y h.1 short i)) u w few e

-- ---- lifelines

abbrev head_of : Lifeline → Parser ((ℕ × ℕ) × List ℕ)
head_of due = item (checked (is_line due) line_head)

head_of_leaves : (due : Lifeline) → LeavesEnds (head_of due)
head_of_leaves due = item_leaves (checked (is_line due) line_head)
    (checked_leaves (is_line due) line_head head_leaves)

made_leaves : (last : Option ℕ) (due : Lifeline) (ks : List Span)
    → LeavesEnds (map_to (a_line due ks) (columns last ks due.columns))
made_leaves last due ks = map_leaves (a_line due ks) (columns last ks due.columns)
    (columns_leave last ks due.columns)

pub kept_leaves : (last : Option ℕ) (due : Lifeline) → LeavesEnds (kept_line last due)
kept_leaves last due = bind_leaves (head_of due)
    (λ head. bind (keys last) (λ ks. map_to (a_line due ks) (columns last ks due.columns)))
    (head_of_leaves due)
    (λ head. bind_leaves (keys last) (λ ks. map_to (a_line due ks) (columns last ks due.columns))
    (keys_leave last) (made_leaves last due))

-- what is kept over a lifeline, however many entries a column has
abbrev pub BodyRun : Option ℕ → Lifeline → StoredLine → Type 0
BodyRun last due l = (l.line ≡ due) × KeysRead last l.keys
    × ColumnsRun last l.keys due.columns l.cells

within_kept : (last : Option ℕ) (due : Lifeline) (l : StoredLine) (u w : List ℕ) → LineFits due
    → BodyRun last due l → length u < 2 ^ 64 → BeginsLine l u
    → Leaves w (kept_line last due (u ++ w))
within_kept last due l u w fits h few e =
    within_few (head_of due)
    (λ head. bind (keys last) (λ ks. map_to (a_line due ks) (columns last ks due.columns)))
    ((due.first, last_number due.last), due.table) (line_bytes l.line) IsNone
    (AndThen (BeginsList 8 (λ p. IsNone) span_bytes l.keys) (list_bytes 8 span_bytes l.keys)
    (BeginsColumns l.cells))
    (λ short rest. ap (λ x. head_of due (line_bytes x ++ rest)) h.0
    ∙ (reads_due due).complete ((due.first, last_number due.last), due.table)
    (fits, own_head due) rest)
    (λ head. bind_leaves (keys last) (λ ks. map_to (a_line due ks) (columns last ks due.columns))
    (keys_leave last) (made_leaves last due))
    (λ k y short i. within_none (head_of due) (head_of_leaves due) k y i)
    (λ k y short i. within_few (keys last)
    (λ ks. map_to (a_line due ks) (columns last ks due.columns))
    l.keys (list_bytes 8 span_bytes l.keys) (BeginsList 8 (λ p. IsNone) span_bytes l.keys)
    (BeginsColumns l.cells) (λ s. (reads_keys last).complete l.keys h.1) (made_leaves last due)
    (within_keys last l.keys h.1)
    (λ m z s j. leaves_map (a_line due l.keys) z (columns last l.keys due.columns (m ++ z))
    (within_columns last l.keys due.columns l.cells m z h.2 s j)) k y short i) u w few e

-- where all of it is there, the entries can be counted
pub counted_columns : (last : Option ℕ) (keys : List Span) (cs : List Column)
    (l : List (List Cell)) → ColumnsRun last keys cs l
    → length (flat_map (list_bytes 8 cell_bytes) l) < 2 ^ 64 → ColumnsRead last keys cs l
counted_columns last keys [] l h few = h
counted_columns last keys (c ∷ cs) [] h few = absurd h
counted_columns last keys (c ∷ cs) (x ∷ l) h few =
    let a = length-append (list_bytes 8 cell_bytes x) (flat_map (list_bytes 8 cell_bytes) l) in (
      (few_cells x (omega (arith, a, few)), h.0),
      counted_columns last keys cs l h.1 (omega (arith, a, few)),
    )

pub counted_body : (last : Option ℕ) (due : Lifeline) (l : StoredLine) → BodyRun last due l
    → length (stored_bytes l) < 2 ^ 64 → BodyRead last due l
counted_body last due l h few =
    let a = length-append (line_bytes l.line ++ list_bytes 8 span_bytes l.keys)
    (flat_map (list_bytes 8 cell_bytes) l.cells) in
    (h.0, h.1, counted_columns last l.keys due.columns l.cells h.2 (omega (arith, a, few)))

open_leave : (last : Option ℕ) (n : ℕ) (due : List Lifeline) → LeavesEnds (open_lines last n due)
unfolding open_lines
open_leave last zero [] = none_leaves StoredLine
open_leave last zero (d ∷ due) = missing_leaves (List StoredLine)
open_leave last (suc n) [] = missing_leaves (List StoredLine)
open_leave last (suc n) (d ∷ due) =
    bind_leaves (kept_line last d) (λ l. map_to (λ ls. l ∷ ls) (open_lines last n due))
    (kept_leaves last d) (λ l. map_leaves (λ ls. l ∷ ls) (open_lines last n due)
    (open_leave last n due))

-- of each lifeline that is due all can be read
abbrev pub AreFull : Option ℕ → List Lifeline → List StoredLine → Type 0
AreFull last [] [] = Unit {0}
AreFull last [] (l ∷ ls) = ⊥
AreFull last (d ∷ due) [] = ⊥
AreFull last (d ∷ due) (l ∷ ls) = (LineFits d × BodyRun last d l) × AreFull last due ls

within_lines : (last : Option ℕ) (n : ℕ) (due : List Lifeline) (l : List StoredLine)
    (u w : List ℕ) → AreFull last due l → length u < 2 ^ 64 → AreFirst BeginsLine stored_bytes n l u
    → Leaves w (open_lines last n due (u ++ w))
unfolding open_lines
within_lines last zero [] l u w h few e = within_none {A = List StoredLine} (pure [])
    (none_leaves StoredLine) u w e
within_lines last zero (d ∷ due) l u w h few e =
    within_none {A = List StoredLine} missing (missing_leaves (List StoredLine)) u w e
within_lines last (suc n) [] [] u w h few e =
    within_none {A = List StoredLine} missing (missing_leaves (List StoredLine)) u w e
within_lines last (suc n) [] (x ∷ l) u w h few e = absurd h
within_lines last (suc n) (d ∷ due) [] u w h few e = absurd h
within_lines last (suc n) (d ∷ due) (x ∷ l) u w h few e =
    within_few (kept_line last d) (λ y. map_to (λ ls. y ∷ ls) (open_lines last n due)) x
    (stored_bytes x) (BeginsLine x) (AreFirst BeginsLine stored_bytes n l)
    (λ short. (reads_kept last d).complete x (h.0.0, counted_body last d x h.0.1 short))
    (λ y. map_leaves (λ ls. y ∷ ls) (open_lines last n due) (open_leave last n due))
    (λ k y short i. within_kept last d x k y h.0.0 h.0.1 short i)
    (λ k y short i. leaves_map (λ ls. x ∷ ls) y (open_lines last n due (k ++ y))
    (within_lines last n due l k y h.1 short i)) u w few e

-- ---- images

within_all_lines : (last : Option ℕ) (due : List Lifeline) (l : List StoredLine)
    → AreFull last due l → (u w : List ℕ) → length u < 2 ^ 64
    → BeginsList 4 BeginsLine stored_bytes l u → Leaves w (all_open_lines last due (u ++ w))
within_all_lines last due l h =
    within_list (item number_32) 4 most_32 count_32 fits_32 (item_leaves number_32 number_32_leaves)
    (λ n. open_lines last n due) (λ n. open_leave last n due) BeginsLine stored_bytes l
    (λ n u w few e. within_lines last n due l u w h few e)

ended_leaves : (last : Option ℕ) (vs : List PlainVersion)
    → LeavesEnds (bind (all_open_lines last (lifelines_of vs))
    (λ ls. nothing_after (an_image last vs ls)))
ended_leaves last vs = bind_leaves (all_open_lines last (lifelines_of vs))
    (λ ls. nothing_after (an_image last vs ls))
    (bind_leaves (item number_32) (λ n. open_lines last n (lifelines_of vs))
    (item_leaves number_32 number_32_leaves) (λ n. open_leave last n (lifelines_of vs)))
    (λ ls. nothing_leaves (an_image last vs ls))

-- all of it can be read, and the rows not compared
pub record IsFull (i : Image) : Type 0 where
  pub last : IsLast i.last
  pub versions : AllRead i.last i.versions
  pub lines : AreFull i.last (lifelines_of i.versions) i.lines

pub within_image : (i : Image) → IsFull i → (u w : List ℕ) → length u < 2 ^ 64 → BeginsImage i u
    → Leaves w (open_image (u ++ w))
within_image i h u w few e =
    within_few last_stamp (λ last. bind (all_versions last)
    (λ vs. bind (all_open_lines last (lifelines_of vs)) (λ ls.
    nothing_after (an_image last vs ls)))) i.last (last_bytes i.last) IsNone
    (AndThen (BeginsList 4 (λ v. IsNone) version_bytes i.versions)
    (list_bytes 4 version_bytes i.versions) (BeginsList 4 BeginsLine stored_bytes i.lines))
    (λ short. reads_last.complete i.last h.last)
    (λ last. bind_leaves (all_versions last) (λ vs. bind (all_open_lines last (lifelines_of vs))
    (λ ls. nothing_after (an_image last vs ls))) (all_versions_leave last) (ended_leaves last))
    (λ k y short j. within_none last_stamp last_leaves k y j)
    (λ k y short j. within_few (all_versions i.last)
    (λ vs. bind (all_open_lines i.last (lifelines_of vs)) (λ ls.
    nothing_after (an_image i.last vs ls))) i.versions (list_bytes 4 version_bytes i.versions)
    (BeginsList 4 (λ v. IsNone) version_bytes i.versions)
    (BeginsList 4 BeginsLine stored_bytes i.lines)
    (λ s. (reads_all_versions i.last).complete i.versions h.versions) (ended_leaves i.last)
    (within_all_versions i.last i.versions h.versions)
    (λ m z s f. leaves_then (λ ls. nothing_after (an_image i.last i.versions ls))
    (λ ls. nothing_leaves (an_image i.last i.versions ls)) z
    (all_open_lines i.last (lifelines_of i.versions) (m ++ z))
    (within_all_lines i.last (lifelines_of i.versions) i.lines h.lines m z s f)) k y short j) u w
    few e
