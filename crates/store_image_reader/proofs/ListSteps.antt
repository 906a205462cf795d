-- The steps of reading lists of items.
use Rattle.std.proofs.Common.{◌≡◌, ℕ, zero, suc, ◌+◌, ◌-◌, ◌≤◌, ◌<◌, ◌==◌, Bool, true, false, List}
use Rattle.std.proofs.Common.{[], ◌∷◌, ◌++◌, map, length, take, drop, get_or, refl, sym, ap, ◌∙◌}
use Rattle.std.proofs.Common.{length-append, arith}
use Rattle.std.specs.Prelude.{Option, Some, None, slice_get, if◌then◌else◌}
use Rattle.std.proofs.lemmas.List.{map-append}
use Rattle.relations_spec.specs.Spans.{Span, span}
use Rattle.prima_base.specs.Columns.{Column}
use Rattle.prima_base.specs.declared.value.ColType.{ColType}
use Rattle.schema_catalog.specs.Tables.{Tables}
use Rattle.history_store_spec.specs.Store.{Cell}
use Rattle.smo_ops_types.specs.Commands.{PlainVersion, version_of}
use Rattle.smo_ops_types.specs.declared.version.Version.{Version}
use Rattle.smo_ops_spec.specs.Past.{no_tables, newest_from}
use Rattle.command_codec_spec.specs.Reading.{Out, Parsed, Unexpected, Parser, and_then, map_to}
use Rattle.command_codec_spec.specs.Reading.{items}
use Rattle.command_codec_spec.specs.Reading.{prepend}
use Rattle.command_codec.specs.declared.reader.ReadStop.{ReadStop}
use Rattle.command_codec.specs.Reads.{Fails}
use Rattle.smo_ops_versions_spec.specs.Lifelines.{Lifeline}
use Rattle.store_image_spec.specs.Images.{StoredLine}
use Rattle.store_image_spec.specs.Reader as spec
use Rattle.store_image_reader.specs.declared.line.ReadLine.{ReadLine}
use Rattle.store_image_reader.specs.Seen.{stored_seen, lines_seen}
use Rattle.store_image_reader.specs.Due.{with_left}
use Rattle.store_image_reader.specs.NextVersion.{newest_stamp}
use Rattle.store_image_reader.proofs.ItemSteps.{one_more, no_more, all_before}

left_one : (count i : ℕ) → i < count → count - i ≡ suc (count - (i + 1))
left_one count i h = omega (arith, h)

left_none : (count i : ℕ) → count ≤ i → count - i ≡ 0
left_none count i h = omega (arith, h)

-- ---- items

module _ {A : Type 0} (p : Parser A) (whole : Out (List A)) (l : List A) (count i : ℕ) (ts : List ℕ)
    (so : whole ≡ prepend l (items p (count - i) ts)) where
  by_item : (k : ℕ) → items p (suc k) ts ≡ and_then (p ts) (λ a. map_to (λ m. a ∷ m) (items p k))
  unfolding items
  by_item k = refl

  none : items p 0 ts ≡ Parsed [] ts
  unfolding items
  none = refl

  next : i < count → whole ≡ prepend l (and_then (p ts)
      (λ a. map_to (λ m. a ∷ m) (items p (count - (i + 1)))))
  next h = so ∙ ap (λ k. prepend l (items p k ts)) (left_one count i h)
      ∙ ap (prepend l) (by_item (count - (i + 1)))

  pub item_taken : (a : A) (rest : List ℕ) → i < count → p ts ≡ Parsed a rest
      → whole ≡ prepend (l ++ a ∷ []) (items p (count - (i + 1)) rest)
  item_taken a rest h e = one_more whole l p ts (λ a. items p (count - (i + 1))) (next h) a rest e

  pub item_failed : (e : ReadStop) (new : List ℕ) → i < count → Fails (p ts) e new
      → Fails whole e new
  item_failed e new h f = no_more whole l p ts (λ a. items p (count - (i + 1))) (next h) e new f

  pub items_taken : count ≤ i → whole ≡ Parsed l ts
  items_taken h = all_before whole l ts (so ∙ ap (λ k. prepend l (items p k ts))
      (left_none count i h) ∙ ap (prepend l) none)

-- ---- entries

pub left_at : (keys : List Span) (id : ℕ) → with_left keys id (slice_get keys id) ≡ drop id keys
left_at [] zero = refl
left_at [] (suc id) = refl
left_at (k ∷ keys) zero = refl
left_at (k ∷ keys) (suc id) = step (slice_get keys id) (left_at keys id)
  where
    step : (o : Option Span) → with_left keys id o ≡ drop id keys
        → with_left (k ∷ keys) (suc id) o ≡ drop id keys
    step None h = h
    step (Some left) h = let e : suc id + 1 ≡ suc (id + 1) = omega arith in
        ap (λ n. left ∷ drop n (k ∷ keys)) e ∙ h

module _ (last : Option ℕ) (type : ColType) (whole : Out (List Cell)) (l : List Cell)
    (count i id : ℕ) (keys : List Span) (ts : List ℕ)
    (so : whole ≡ prepend l (spec.entries last type (count - i) id keys ts)) where
  abbrev after_entry : ℕ → Span → List Span → Cell → Parser (List Cell)
  after_entry n left more c = if c.period.end == left.end
      then spec.entries last type n (id + 1) more
      else spec.entries last type n id (span c.period.end left.end ∷ more)

  by_entry : (n : ℕ) (left : Span) (more : List Span)
      → spec.entries last type (suc n) id (left ∷ more) ts
      ≡ and_then (spec.entry last type id left ts)
      (λ c. map_to (λ m. c ∷ m) (after_entry n left more c))
  unfolding spec.entries
  by_entry n left more = refl

  no_key : (n : ℕ) → spec.entries last type (suc n) id [] ts ≡ Unexpected ts
  unfolding spec.entries
  no_key n = refl

  no_entry : (left : Span) (more : List Span)
      → spec.entries last type 0 id (left ∷ more) ts ≡ Unexpected ts
  unfolding spec.entries
  no_entry left more = refl

  no_more_entries : spec.entries last type 0 id [] ts ≡ Parsed [] ts
  unfolding spec.entries
  no_more_entries = refl

  module _ (left : Span) (more : List Span) (h : i < count) (e : keys ≡ left ∷ more) where
    next_entry : whole ≡ prepend l (and_then (spec.entry last type id left ts)
        (λ c. map_to (λ m. c ∷ m) (after_entry (count - (i + 1)) left more c)))
    next_entry = so ∙ ap (λ k. prepend l (spec.entries last type k id keys ts)) (left_one count i h)
        ∙ ap (λ k. prepend l (spec.entries last type (suc (count - (i + 1))) id k ts)) e
        ∙ ap (prepend l) (by_entry (count - (i + 1)) left more)

    pub entry_taken : (c : Cell) (rest : List ℕ) → spec.entry last type id left ts ≡ Parsed c rest
        → whole ≡ prepend (l ++ c ∷ []) (spec.entries last type (count - (i + 1))
        (if c.period.end == left.end then id + 1 else id)
        (if c.period.end == left.end then more else span c.period.end left.end ∷ more) rest)
    entry_taken c rest f = one_more whole l (spec.entry last type id left) ts
        (after_entry (count - (i + 1)) left more) next_entry c rest f
        ∙ ap (prepend (l ++ c ∷ [])) (step (c.period.end == left.end))
      where
        step : (b : Bool) → (if b then spec.entries last type (count - (i + 1)) (id + 1) more
            else spec.entries last type (count - (i + 1)) id (span c.period.end left.end ∷ more))
            rest
            ≡ spec.entries last type (count - (i + 1)) (if b then id + 1 else id)
            (if b then more else span c.period.end left.end ∷ more) rest
        step true = refl
        step false = refl

    pub entry_failed : (e : ReadStop) (new : List ℕ) → Fails (spec.entry last type id left ts) e new
        → Fails whole e new
    entry_failed stop new f = no_more whole l (spec.entry last type id left) ts
        (after_entry (count - (i + 1)) left more) next_entry stop new f

  pub key_missing : i < count → keys ≡ [] → whole ≡ Unexpected ts
  key_missing h e = so ∙ ap (λ k. prepend l (spec.entries last type k id keys ts))
      (left_one count i h) ∙ ap (λ k. prepend l
      (spec.entries last type (suc (count - (i + 1))) id k ts)) e
      ∙ ap (prepend l) (no_key (count - (i + 1)))

  pub key_left : (left : Span) (more : List Span) → count ≤ i → keys ≡ left ∷ more
      → whole ≡ Unexpected ts
  key_left left more h e = so ∙ ap (λ k. prepend l (spec.entries last type k id keys ts))
      (left_none count i h) ∙ ap (λ k. prepend l (spec.entries last type 0 id k ts)) e
      ∙ ap (prepend l) (no_entry left more)

  pub entries_taken : count ≤ i → keys ≡ [] → whole ≡ Parsed l ts
  entries_taken h e = all_before whole l ts (so
      ∙ ap (λ k. prepend l (spec.entries last type k id keys ts)) (left_none count i h)
      ∙ ap (λ k. prepend l (spec.entries last type 0 id k ts)) e ∙ ap (prepend l) no_more_entries)

-- ---- columns

module _ (last : Option ℕ) (keys : List Span) (whole : Out (List (List Cell)))
    (l : List (List Cell)) (columns : List Column) (ts : List ℕ)
    (so : whole ≡ prepend l (spec.columns last keys columns ts)) where
  by_column : (c : Column) (more : List Column)
      → spec.columns last keys (c ∷ more) ts ≡ and_then (spec.column_entries last keys c.1 ts)
      (λ cells. map_to (λ m. cells ∷ m) (spec.columns last keys more))
  unfolding spec.columns
  by_column c more = refl

  no_column : spec.columns last keys [] ts ≡ Parsed [] ts
  unfolding spec.columns
  no_column = refl

  module _ (c : Column) (more : List Column) (e : columns ≡ c ∷ more) where
    next_column : whole ≡ prepend l (and_then (spec.column_entries last keys c.1 ts)
        (λ cells. map_to (λ m. cells ∷ m) (spec.columns last keys more)))
    next_column = so ∙ ap (λ k. prepend l (spec.columns last keys k ts)) e
        ∙ ap (prepend l) (by_column c more)

    pub column_taken : (cells : List Cell) (rest : List ℕ)
        → spec.column_entries last keys c.1 ts ≡ Parsed cells rest
        → whole ≡ prepend (l ++ cells ∷ []) (spec.columns last keys more rest)
    column_taken cells rest f = one_more whole l (spec.column_entries last keys c.1) ts
        (λ cells. spec.columns last keys more) next_column cells rest f

    pub column_failed : (stop : ReadStop) (new : List ℕ)
        → Fails (spec.column_entries last keys c.1 ts) stop new → Fails whole stop new
    column_failed stop new f = no_more whole l (spec.column_entries last keys c.1) ts
        (λ cells. spec.columns last keys more) next_column stop new f

  pub columns_taken : columns ≡ [] → whole ≡ Parsed l ts
  columns_taken e = all_before whole l ts (so ∙ ap (λ k. prepend l (spec.columns last keys k ts)) e
      ∙ ap (prepend l) no_column)

-- ---- versions

pub newest_stamp_after : (vs : List PlainVersion) (v : PlainVersion)
    → newest_stamp (vs ++ v ∷ []) ≡ Some v.stamp
newest_stamp_after [] v = refl
newest_stamp_after (w ∷ []) v = refl
newest_stamp_after (w ∷ (x ∷ vs)) v = newest_stamp_after (x ∷ vs) v

pub newest_after : (tables : Tables) (vs : List PlainVersion) (v : PlainVersion)
    → newest_from tables (vs ++ v ∷ []) ≡ v.tables
newest_after tables [] v = refl
newest_after tables (w ∷ vs) v = newest_after w.tables vs v

-- one version more was read
pub version_pushed : (last : Option ℕ) (whole : Out (List PlainVersion)) (l more : List Version)
    (x : Version) (n : ℕ) (rest : List ℕ) → more ≡ l ++ x ∷ []
    → whole ≡ prepend (map version_of l ++ version_of x ∷ [])
    (spec.versions last n (length l + 1) (Some x.stamp) x.schema rest)
    → whole ≡ prepend (map version_of more) (spec.versions last n (length more)
    (newest_stamp (map version_of more)) (newest_from no_tables (map version_of more)) rest)
version_pushed last whole l more x n rest pushed h =
    let vs : map version_of more ≡ map version_of l ++ version_of x ∷ [] =
    ap (map version_of) pushed ∙ map-append version_of l (x ∷ []) in
    let k : length more ≡ length l + 1 = ap length pushed ∙ length-append l (x ∷ []) in
    let s : newest_stamp (map version_of more) ≡ Some x.stamp = ap newest_stamp vs
    ∙ newest_stamp_after (map version_of l) (version_of x) in
    let t : newest_from no_tables (map version_of more) ≡ x.schema = ap (newest_from no_tables) vs
    ∙ newest_after no_tables (map version_of l) (version_of x) in
    h ∙ ap (λ m. prepend m (spec.versions last n (length l + 1) (Some x.stamp) x.schema rest))
    (sym vs)
    ∙ ap (λ j. prepend (map version_of more) (spec.versions last n j (Some x.stamp) x.schema rest))
    (sym k)
    ∙ ap (λ o. prepend (map version_of more) (spec.versions last n (length more) o x.schema rest))
    (sym s)
    ∙ ap (λ o. prepend (map version_of more) (spec.versions last n (length more)
    (newest_stamp (map version_of more)) o rest)) (sym t)

module _ (last : Option ℕ) (whole : Out (List PlainVersion)) (l : List PlainVersion)
    (count i number : ℕ) (before : Option ℕ) (tables : Tables) (ts : List ℕ)
    (so : whole ≡ prepend l (spec.versions last (count - i) number before tables ts)) where
  by_version : (n : ℕ) → spec.versions last (suc n) number before tables ts
      ≡ and_then (spec.version last number before tables ts)
      (λ v. map_to (λ m. v ∷ m) (spec.versions last n (number + 1) (Some v.stamp) v.tables))
  unfolding spec.versions
  by_version n = refl

  no_version : spec.versions last 0 number before tables ts ≡ Parsed [] ts
  unfolding spec.versions
  no_version = refl

  next_version : i < count → whole ≡ prepend l
      (and_then (spec.version last number before tables ts)
      (λ v. map_to (λ m. v ∷ m) (spec.versions last (count - (i + 1)) (number + 1) (Some v.stamp)
      v.tables)))
  next_version h = so ∙ ap (λ k. prepend l (spec.versions last k number before tables ts))
      (left_one count i h) ∙ ap (prepend l) (by_version (count - (i + 1)))

  pub version_taken : (v : PlainVersion) (rest : List ℕ) → i < count
      → spec.version last number before tables ts ≡ Parsed v rest
      → whole ≡ prepend (l ++ v ∷ []) (spec.versions last (count - (i + 1)) (number + 1)
      (Some v.stamp) v.tables rest)
  version_taken v rest h e = one_more whole l (spec.version last number before tables) ts
      (λ v. spec.versions last (count - (i + 1)) (number + 1) (Some v.stamp) v.tables)
      (next_version h) v rest e

  pub version_failed : (stop : ReadStop) (new : List ℕ) → i < count
      → Fails (spec.version last number before tables ts) stop new → Fails whole stop new
  version_failed stop new h f = no_more whole l (spec.version last number before tables) ts
      (λ v. spec.versions last (count - (i + 1)) (number + 1) (Some v.stamp) v.tables)
      (next_version h) stop new f

  pub versions_taken : count ≤ i → whole ≡ Parsed l ts
  versions_taken h = all_before whole l ts (so
      ∙ ap (λ k. prepend l (spec.versions last k number before tables ts)) (left_none count i h)
      ∙ ap (prepend l) no_version)

-- ---- lifelines

pub lines_pushed : (due : List Lifeline) (l : List ReadLine) (i : ℕ) (line : Lifeline)
    (x : ReadLine) → length l ≡ i → i < length due → line ≡ get_or due i line
    → lines_seen (take (i + 1) due) (l ++ x ∷ []) ≡ lines_seen (take i due) l ++ stored_seen line x
    ∷ []
lines_pushed [] l i line x n h e = absurd (omega (arith, h))
lines_pushed (d ∷ due) [] zero line x n h e = ap (λ y. stored_seen y x ∷ []) (sym e)
lines_pushed (d ∷ due) [] (suc i) line x n h e = absurd (omega (arith, n))
lines_pushed (d ∷ due) (y ∷ l) zero line x n h e = absurd (omega (arith, n))
lines_pushed (d ∷ due) (y ∷ l) (suc i) line x n h e =
    let z : suc i + 1 ≡ suc (i + 1) = omega arith in
    ap (λ k. lines_seen (take k (d ∷ due)) (y ∷ l ++ x ∷ [])) z
    ∙ ap (λ m. stored_seen d y ∷ m) (lines_pushed due l i line x (omega (arith, n))
    (omega (arith, h)) e)

module _ (last : Option ℕ) (whole : Out (List StoredLine)) (l : List StoredLine) (count i : ℕ)
    (due : List Lifeline) (ts : List ℕ) (so : whole
    ≡ prepend l (spec.lines last (count - i) due ts)) where
  by_line : (n : ℕ) (d : Lifeline) (more : List Lifeline)
      → spec.lines last (suc n) (d ∷ more) ts
      ≡ and_then (spec.stored_line last d ts) (λ x. map_to (λ m. x ∷ m) (spec.lines last n more))
  unfolding spec.lines
  by_line n d more = refl

  none_due : (n : ℕ) → spec.lines last (suc n) [] ts ≡ Unexpected ts
  unfolding spec.lines
  none_due n = refl

  no_line : (d : Lifeline) (more : List Lifeline) → spec.lines last 0 (d ∷ more) ts ≡ Unexpected ts
  unfolding spec.lines
  no_line d more = refl

  no_more_lines : spec.lines last 0 [] ts ≡ Parsed [] ts
  unfolding spec.lines
  no_more_lines = refl

  module _ (d : Lifeline) (more : List Lifeline) (h : i < count) (e : due ≡ d ∷ more) where
    next_line : whole ≡ prepend l (and_then (spec.stored_line last d ts)
        (λ x. map_to (λ m. x ∷ m) (spec.lines last (count - (i + 1)) more)))
    next_line = so ∙ ap (λ k. prepend l (spec.lines last k due ts)) (left_one count i h)
        ∙ ap (λ k. prepend l (spec.lines last (suc (count - (i + 1))) k ts)) e
        ∙ ap (prepend l) (by_line (count - (i + 1)) d more)

    pub line_taken : (x : StoredLine) (rest : List ℕ) → spec.stored_line last d ts ≡ Parsed x rest
        → whole ≡ prepend (l ++ x ∷ []) (spec.lines last (count - (i + 1)) more rest)
    line_taken x rest f = one_more whole l (spec.stored_line last d) ts
        (λ x. spec.lines last (count - (i + 1)) more) next_line x rest f

    pub line_failed : (stop : ReadStop) (new : List ℕ) → Fails (spec.stored_line last d ts) stop new
        → Fails whole stop new
    line_failed stop new f = no_more whole l (spec.stored_line last d) ts
        (λ x. spec.lines last (count - (i + 1)) more) next_line stop new f

  pub due_missing : i < count → due ≡ [] → whole ≡ Unexpected ts
  due_missing h e = so ∙ ap (λ k. prepend l (spec.lines last k due ts)) (left_one count i h)
      ∙ ap (λ k. prepend l (spec.lines last (suc (count - (i + 1))) k ts)) e
      ∙ ap (prepend l) (none_due (count - (i + 1)))

  pub due_left : (d : Lifeline) (more : List Lifeline) → count ≤ i → due ≡ d ∷ more
      → whole ≡ Unexpected ts
  due_left d more h e = so ∙ ap (λ k. prepend l (spec.lines last k due ts)) (left_none count i h)
      ∙ ap (λ k. prepend l (spec.lines last 0 k ts)) e ∙ ap (prepend l) (no_line d more)

  pub lines_taken : count ≤ i → due ≡ [] → whole ≡ Parsed l ts
  lines_taken h e = all_before whole l ts (so
      ∙ ap (λ k. prepend l (spec.lines last k due ts)) (left_none count i h)
      ∙ ap (λ k. prepend l (spec.lines last 0 k ts)) e ∙ ap (prepend l) no_more_lines)
