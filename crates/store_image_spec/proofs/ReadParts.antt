-- What the readers of an image's parts read: of each part, what it must be for its reader to read
-- it, and that just this is read.
use Rattle.std.proofs.Common.{◌≡◌, ℕ, zero, suc, ◌+◌, ◌≤◌, ◌==◌, eqb-true, Bool, true, false, List}
use Rattle.std.proofs.Common.{[], ◌∷◌, ◌++◌, length, refl, sym, ap, ◌∙◌, subst, append_assoc}
use Rattle.std.proofs.Common.{append-nil, arith}
use Rattle.std.specs.Prelude.{MatchBool, Option, Some, None, ⊤, if◌then◌else◌, ◌&&◌}
use Rattle.std.specs.List.{flat_map, AllByRecursion}
use Rattle.std.proofs.lemmas.Bool.{leb-true}
use Rattle.relations_spec.specs.Spans.{Span, span}
use Rattle.prima_base.specs.Bytes.{IsName}
use Rattle.prima_base.specs.Columns.{Column, IsValid}
use Rattle.prima_base.specs.declared.value.ColType.{ColType}
use Rattle.prima_base.specs.OrderLaws.{same_is}
use Rattle.schema_catalog.specs.Tables.{Tables}
use Rattle.history_store_spec.specs.Store.{Cell}
use Rattle.smo_ops_types.specs.Commands.{PlainVersion}
use Rattle.smo_ops_types.specs.Operators.{Operator}
use Rattle.smo_ops_spec.specs.Evolutions.{schema_after_each}
use Rattle.smo_ops_spec.specs.OneRow.{same}
use Rattle.smo_ops_spec.specs.Past.{no_tables}
use Rattle.smo_ops_spec.proofs.NameLaws.{same_itself}
use Rattle.command_codec_spec.specs.Reading.{Out, Parsed, Unexpected, Parser, and_then, bind}
use Rattle.command_codec_spec.specs.Reading.{byte, map_to, pair, digits, items}
use Rattle.command_codec_spec.specs.Reader.{up_to, number_64, name, value, operator, operators}
use Rattle.command_codec_spec.specs.Encoding.{number, name_bytes, value_bytes, operator_bytes}
use Rattle.command_codec_spec.specs.Encoding.{evolution_bytes}
use Rattle.command_codec_spec.specs.Encoding.{list_bytes}
use Rattle.command_codec_spec.specs.Valid.{IsOperator, IsWritableOperator, OperatorNamed}
use Rattle.command_codec_spec.specs.Valid.{IsWritableEvolution, EvolutionNamed}
use Rattle.command_codec_spec.proofs.Correctness.{byte_correct}
use Rattle.command_codec_spec.proofs.Numbers.{both_true, of_both}
use Rattle.command_codec_spec.proofs.PartFormats.{name_correct, value_correct, items_correct}
use Rattle.command_codec_spec.proofs.PartFormats.{list_correct}
use Rattle.command_codec_spec.proofs.OneMember.{ones, same_length, listed_as_members}
use Rattle.command_codec_spec.proofs.OneMember.{writable_ones, named_ones, all_ones}
use Rattle.command_codec_spec.proofs.CommandFormats.{operator_correct, each_of_both}
use Rattle.smo_ops_versions_spec.specs.Lifelines.{Lifeline, lifelines_of}
use Rattle.store_image_spec.specs.Images.{StoredLine, Image}
use Rattle.store_image_spec.specs.Items.{item, checked}
use Rattle.store_image_spec.specs.ItemChecks.{is_version, is_line, is_period, is_due}
use Rattle.store_image_spec.specs.Encoding.{last_number, last_bytes, version_bytes, span_bytes}
use Rattle.store_image_spec.specs.Encoding.{cell_bytes, line_bytes, stored_bytes, image_bytes}
use Rattle.store_image_spec.specs.Reader.{number_32, last_arm, last_stamp, version_after}
use Rattle.store_image_spec.specs.Reader.{evolution, version, versions, all_versions, period, key}
use Rattle.store_image_spec.specs.Reader.{keys, cell_of, entry, entries, column_entries, columns}
use Rattle.store_image_spec.specs.Reader.{line_head, a_line, has_apart, stored_line, lines}
use Rattle.store_image_spec.specs.Reader.{all_lines}
use Rattle.store_image_spec.specs.Reader.{nothing_after, an_image, image}
use Rattle.store_image_spec.specs.Reader.{a_span}
use Rattle.store_image_spec.proofs.Checking.{number_itself}
use Rattle.store_image_spec.proofs.Formats.{Reads, reads_correct, reads_so, reads_item}
use Rattle.store_image_spec.proofs.Formats.{reads_checked}
use Rattle.store_image_spec.proofs.Formats.{reads_missing, reads_then, reads_map, reads_pair, Led}
use Rattle.store_image_spec.proofs.Formats.{reads_led, reads_none, reads_if, reads_number}
use Rattle.store_image_spec.proofs.Formats.{reads_counted, Each, reads_items}

-- ---- numbers

abbrev pub most_32 : ℕ
most_32 = 4294967295

abbrev pub most_64 : ℕ
most_64 = 18446744073709551615

pub reads_32 : Reads number_32 (λ n. n ≤ most_32) (λ n. number 4 n)
unfolding number_32
reads_32 = reads_number most_32 4 (omega arith)

pub reads_64 : Reads number_64 (λ n. n ≤ most_64) (λ n. number 8 n)
unfolding number_64
reads_64 = reads_number most_64 8 (omega arith)

-- ---- the last stamp

abbrev pub IsLast : Option ℕ → Type 0
IsLast None = ⊤
IsLast (Some stamp) = stamp ≤ 18446744073709551614

abbrev AfterTag : ℕ → Option ℕ → Type 0
AfterTag zero last = last ≡ None
AfterTag (suc tag) last = (stamp : ℕ) × (stamp ≤ 18446744073709551614) × (last ≡ Some stamp)

abbrev stamp_in : Option ℕ → ℕ
stamp_in None = 0
stamp_in (Some stamp) = stamp

pub reads_last : Reads last_stamp IsLast last_bytes
unfolding last_stamp
reads_last = reads_item (bind (byte (up_to 1)) last_arm) IsLast last_bytes
    (reads_then (byte (up_to 1)) (λ b. up_to 1 b ≡ true) (λ b. b ∷ []) last_arm AfterTag
    (λ tag last. number 8 (stamp_in last)) IsLast last_bytes
    (reads_correct (byte (up_to 1)) (λ b. up_to 1 b ≡ true) (λ b. b ∷ [])
    (byte_correct (up_to 1) 0 refl)) arms up down)
  where
    arms : (tag : ℕ) → up_to 1 tag ≡ true → Reads (last_arm tag) (AfterTag tag)
        (λ last. number 8 (stamp_in last))
    arms zero t =
        reads_map (digits 0 8 0) (λ n. n ≤ 0) (λ n. number 8 n) (reads_number 0 8 (omega arith))
        (λ n. None) (AfterTag 0) (λ last. number 8 (stamp_in last))
        (λ n h. (refl, ap (λ k. number 8 k) (let e : 0 ≡ n = omega (arith, h) in e)))
        (λ last h. (0, omega arith, h))
    arms (suc zero) t =
        reads_map (digits 18446744073709551614 8 0) (λ n. n ≤ 18446744073709551614)
        (λ n. number 8 n) (reads_number 18446744073709551614 8 (omega arith)) Some (AfterTag 1)
        (λ last. number 8 (stamp_in last)) (λ n h. ((n, h, refl), refl)) (λ last h. h)
    arms (suc (suc n)) t = absurd (let h = leb-true (suc (suc n)) 1 t in omega (arith, h))

    encoded : (last : Option ℕ) (tag : ℕ) → up_to 1 tag ≡ true → AfterTag tag last → IsLast last
        × (last_bytes last ≡ (tag ∷ []) ++ number 8 (stamp_in last))
    encoded None zero t h = (tt, refl)
    encoded (Some stamp) zero t h = absurd (cc)
    encoded None (suc tag) t h = absurd (let e = h.2 in cc)
    encoded (Some stamp) (suc zero) t h = (
      let e : h.0 ≡ stamp = (let q = h.2 in cc) in let k =
          h.1 in omega (arith, e, k),
      refl,
    )
    encoded (Some stamp) (suc (suc n)) t h = absurd
        (let k = leb-true (suc (suc n)) 1 t in omega (arith, k))

    up : (tag : ℕ) (last : Option ℕ) → up_to 1 tag ≡ true → AfterTag tag last → IsLast last
        × (last_bytes last ≡ (tag ∷ []) ++ number 8 (stamp_in last))
    up tag last t h = encoded last tag t h

    down : (last : Option ℕ) → IsLast last → (tag : ℕ) × (up_to 1 tag ≡ true) × AfterTag tag last
    down None h = (0, refl, refl)
    down (Some stamp) h = (1, refl, (stamp, h, refl))

-- ---- versions

-- a stamp of 64 bits, and operators that can be spelled
abbrev pub IsEncoded : PlainVersion → Type 0
IsEncoded v = (v.stamp ≤ most_64) × (IsWritableEvolution v.op × EvolutionNamed v.op)
    × (length v.inverse ≤ most_32)
    × (AllByRecursion IsWritableEvolution v.inverse × AllByRecursion EvolutionNamed v.inverse)

abbrev pub IsEvolution : Tables → PlainVersion → Type 0
IsEvolution before v = IsEncoded v × (v.tables ≡ schema_after_each before v.op)

abbrev Operators : List Operator → Type 0
Operators ops = (length ops ≤ most_32) × AllByRecursion IsOperator ops

abbrev Parts : ℕ × (Operator × List Operator) → Type 0
Parts x = (x.0 ≤ most_64) × (IsOperator x.1.0 × Operators x.1.1)

abbrev part_bytes : ℕ × (Operator × List Operator) → List ℕ
part_bytes x = number 8 x.0 ++ (operator_bytes x.1.0 ++ list_bytes 4 operator_bytes x.1.1)

reads_operators : Reads operators Operators (list_bytes 4 operator_bytes)
unfolding operators
reads_operators = reads_correct operators Operators (list_bytes 4 operator_bytes)
    (list_correct operator IsOperator operator_bytes 4 most_32 (omega arith)
    (λ n h. items_correct operator IsOperator operator_bytes operator_correct n))

reads_parts : Reads (pair number_64 (pair operator operators)) Parts part_bytes
reads_parts = reads_pair number_64 (λ n. n ≤ most_64) (λ n. number 8 n) (pair operator operators)
    (λ y. IsOperator y.0 × Operators y.1) (λ y.
    operator_bytes y.0 ++ list_bytes 4 operator_bytes y.1) reads_64
    (reads_pair operator IsOperator operator_bytes operators Operators (list_bytes 4 operator_bytes)
    (reads_correct operator IsOperator operator_bytes operator_correct) reads_operators)

-- what is read is a version of operators of one member each
part_read : (before : Tables) (x : ℕ × (Operator × List Operator)) → Parts x
    → IsEvolution before (version_after before x)
part_read before x h =
    let each = each_of_both IsWritableOperator OperatorNamed x.1.1 h.1.1.1 in
    let few = h.1.1.0 in
    let same = same_length x.1.1 in (
      (
        h.0,
        (h.1.0.0, (h.1.0.1, tt)),
        omega (arith, few, same),
        (writable_ones x.1.1 each.0, named_ones x.1.1 each.1),
      ),
      refl,
    )

abbrev version_of_parts : ℕ → List Operator → List (List Operator) → Tables → PlainVersion
version_of_parts stamp op inverse tables = record {
  stamp = stamp;
  op = op;
  inverse = inverse;
  tables = tables;
}

-- and each such version is read
part_of : (before : Tables) (v : PlainVersion) (op : List Operator) → v.op ≡ op
    → IsWritableEvolution op → EvolutionNamed op → IsEvolution before v
    → (x : ℕ × (Operator × List Operator)) × Parts x × (v ≡ version_after before x)
part_of before v [] e w n h = absurd w
part_of before v (op ∷ []) e w n h =
    let all = all_ones v.inverse h.0.3.0 h.0.3.1 in
    let few = h.0.2 in
    let same = same_length all.0 in
    let long : length (ones all.0) ≡ length v.inverse = ap length all.2 in (
      (v.stamp, (op, all.0)),
      (h.0.0, ((w, n.0), (omega (arith, few, same, long), all.1))),
      ap (version_of_parts v.stamp v.op v.inverse) h.1
          ∙ ap (λ o. version_of_parts v.stamp o v.inverse (schema_after_each before o)) e
          ∙ ap (λ l. version_of_parts v.stamp (op ∷ []) l (schema_after_each before (op ∷ [])))
          (sym all.2),
    )
part_of before v (op ∷ p ∷ ops) e w n h = absurd w

reads_evolution : (before : Tables) → Reads (evolution before) (IsEvolution before) version_bytes
reads_evolution before = reads_map (pair number_64 (pair operator operators)) Parts part_bytes
    reads_parts (version_after before) (IsEvolution before) version_bytes
    (λ x h. (
      part_read before x h,
      append_assoc (number 8 x.0) (operator_bytes x.1.0) (list_bytes 4 evolution_bytes (ones x.1.1))
          ∙ ap (λ (bytes : List ℕ). number 8 x.0 ++ (operator_bytes x.1.0 ++ bytes))
          (listed_as_members x.1.1),
    ))
    (λ v h. part_of before v v.op refl h.0.1.0 h.0.1.1 h)

abbrev pub IsVersionRead : Option ℕ → ℕ → Option ℕ → Tables → PlainVersion → Type 0
IsVersionRead last number before tables v = IsEvolution tables v
    × (is_version last number before tables v ≡ true)

abbrev pub AreRead : Option ℕ → ℕ → ℕ → Option ℕ → Tables → List PlainVersion → Type 0
AreRead last zero number before tables l = l ≡ []
AreRead last (suc n) number before tables l =
    Led (IsVersionRead last number before tables)
    (λ v vs. AreRead last n (number + 1) (Some v.stamp) v.tables vs) l

pub reads_version : (last : Option ℕ) (number : ℕ) (before : Option ℕ) (tables : Tables)
    → Reads (version last number before tables) (IsVersionRead last number before tables)
    version_bytes
unfolding version
reads_version last number before tables =
    reads_item (checked (is_version last number before tables) (evolution tables))
    (IsVersionRead last number before tables) version_bytes
    (reads_checked (evolution tables) (IsEvolution tables) version_bytes (reads_evolution tables)
    (is_version last number before tables))

reads_versions : (last : Option ℕ) (n number : ℕ) (before : Option ℕ) (tables : Tables)
    → Reads (versions last n number before tables) (AreRead last n number before tables)
    (flat_map version_bytes)
unfolding versions
reads_versions last zero number before tables = reads_none version_bytes
reads_versions last (suc n) number before tables =
    reads_led (version last number before tables) (IsVersionRead last number before tables)
    version_bytes (λ v. versions last n (number + 1) (Some v.stamp) v.tables)
    (λ v vs. AreRead last n (number + 1) (Some v.stamp) v.tables vs)
    (reads_version last number before tables)
    (λ v h. reads_versions last n (number + 1) (Some v.stamp) v.tables)

so_many_versions : (last : Option ℕ) (n number : ℕ) (before : Option ℕ) (tables : Tables)
    (l : List PlainVersion) → AreRead last n number before tables l → length l ≡ n
so_many_versions last zero number before tables l h = ap length h
so_many_versions last (suc n) number before tables [] h = absurd h
so_many_versions last (suc n) number before tables (v ∷ l) h =
    ap suc (so_many_versions last n (number + 1) (Some v.stamp) v.tables l h.1)

abbrev pub AllRead : Option ℕ → List PlainVersion → Type 0
AllRead last l = (length l ≤ most_32) × AreRead last (length l) 0 None no_tables l

pub reads_all_versions : (last : Option ℕ) → Reads (all_versions last) (AllRead last)
    (list_bytes 4 version_bytes)
unfolding all_versions
reads_all_versions last = reads_counted (item number_32) 4 most_32
    (reads_item number_32 (λ n. n ≤ most_32) (λ n. number 4 n) reads_32) version_bytes
    (λ n. versions last n 0 None no_tables)
    (λ n l. AreRead last n 0 None no_tables l)
    (λ n l h. so_many_versions last n 0 None no_tables l h)
    (λ n. reads_versions last n 0 None no_tables)

-- ---- keys

abbrev pub Fits : Span → Type 0
Fits p = (p.start ≤ most_64) × (p.end ≤ most_64)

reads_period : Reads period Fits span_bytes
unfolding period
reads_period = reads_map (pair number_64 number_64) (λ x. (x.0 ≤ most_64) × (x.1 ≤ most_64))
    (λ x. number 8 x.0 ++ number 8 x.1)
    (reads_pair number_64 (λ n. n ≤ most_64) (λ n. number 8 n) number_64 (λ n. n ≤ most_64)
    (λ n. number 8 n) reads_64 reads_64) a_span Fits span_bytes
    (λ x h. (h, refl)) (λ p h. ((p.start, p.end), h, refl))

abbrev pub IsKey : Option ℕ → Span → Type 0
IsKey last p = Fits p × (is_period last p ≡ true)

pub reads_key : (last : Option ℕ) → Reads (key last) (IsKey last) span_bytes
unfolding key
reads_key last = reads_item (checked (is_period last) period) (IsKey last) span_bytes
    (reads_checked period Fits span_bytes reads_period (is_period last))

each_counted : {A : Type 0} (Is : A → Type 0) (n : ℕ) (l : List A) → Each Is n l → length l ≡ n
each_counted Is zero l h = ap length h
each_counted Is (suc n) [] h = absurd h
each_counted Is (suc n) (a ∷ l) h = ap suc (each_counted Is n l h.1)

abbrev pub KeysRead : Option ℕ → List Span → Type 0
KeysRead last l = (length l ≤ most_64) × Each (IsKey last) (length l) l

pub reads_count : Reads (item number_64) (λ n. n ≤ most_64) (λ n. number 8 n)
reads_count = reads_item number_64 (λ n. n ≤ most_64) (λ n. number 8 n) reads_64

pub reads_keys : (last : Option ℕ) → Reads (keys last) (KeysRead last) (list_bytes 8 span_bytes)
unfolding keys
reads_keys last = reads_counted (item number_64) 8 most_64 reads_count span_bytes
    (λ n. items (key last) n) (λ n l. Each (IsKey last) n l)
    (λ n l h. each_counted (IsKey last) n l h)
    (λ n. reads_items (key last) (IsKey last) span_bytes (reads_key last) n)

-- ---- entries

abbrev pub CellFits : Cell → Type 0
CellFits c = ((c.id ≤ most_64) × IsValid c.value) × Fits c.period

pub reads_cell : Reads (map_to cell_of (pair (pair number_64 value) period)) CellFits cell_bytes
reads_cell = reads_map (pair (pair number_64 value) period)
    (λ x. ((x.0.0 ≤ most_64) × IsValid x.0.1) × Fits x.1)
    (λ x. (number 8 x.0.0 ++ value_bytes x.0.1) ++ span_bytes x.1)
    (reads_pair (pair number_64 value) (λ x. (x.0 ≤ most_64) × IsValid x.1)
    (λ x. number 8 x.0 ++ value_bytes x.1) period Fits span_bytes
    (reads_pair number_64 (λ n. n ≤ most_64) (λ n. number 8 n) value IsValid value_bytes reads_64
    (reads_correct value IsValid value_bytes value_correct)) reads_period)
    cell_of CellFits cell_bytes (λ x h. (h, refl)) (λ c h. (((c.id, c.value), c.period), h, refl))

abbrev pub IsEntry : Option ℕ → ColType → ℕ → Span → Cell → Type 0
IsEntry last type id left c = CellFits c × (is_due last type id left c ≡ true)

pub reads_entry : (last : Option ℕ) (type : ColType) (id : ℕ) (left : Span)
    → Reads (entry last type id left) (IsEntry last type id left) cell_bytes
unfolding entry
reads_entry last type id left =
    reads_item (checked (is_due last type id left)
    (map_to cell_of (pair (pair number_64 value) period))) (IsEntry last type id left)
    cell_bytes
    (reads_checked (map_to cell_of (pair (pair number_64 value) period)) CellFits cell_bytes
    reads_cell (is_due last type id left))

-- the entries of these keys, of the first of which a part may be filled
abbrev pub Run : Option ℕ → ColType → ℕ → List Span → List Cell → Type 0
Run last type id [] [] = ⊤
Run last type id (left ∷ keys) [] = ⊥
Run last type id [] (c ∷ cells) = ⊥
Run last type id (left ∷ keys) (c ∷ cells) =
    IsEntry last type id left c × MatchBool (c.period.end == left.end)
    (Run last type (id + 1) keys cells) (Run last type id (span c.period.end left.end ∷ keys)
    cells)

abbrev Runs : Option ℕ → ColType → ℕ → ℕ → List Span → List Cell → Type 0
Runs last type zero id [] l = l ≡ []
Runs last type zero id (left ∷ keys) l = ⊥
Runs last type (suc n) id [] l = ⊥
Runs last type (suc n) id (left ∷ keys) l =
    Led (IsEntry last type id left) (λ c m. MatchBool (c.period.end == left.end)
    (Runs last type n (id + 1) keys m) (Runs last type n id (span c.period.end left.end ∷ keys)
    m)) l

reads_entries : (last : Option ℕ) (type : ColType) (n id : ℕ) (keys : List Span)
    → Reads (entries last type n id keys) (Runs last type n id keys) (flat_map cell_bytes)
unfolding entries
reads_entries last type zero id [] = reads_none cell_bytes
reads_entries last type zero id (left ∷ keys) = reads_missing (flat_map cell_bytes)
reads_entries last type (suc n) id [] = reads_missing (flat_map cell_bytes)
reads_entries last type (suc n) id (left ∷ keys) =
    reads_led (entry last type id left) (IsEntry last type id left) cell_bytes
    (λ c. if c.period.end == left.end then entries last type n (id + 1) keys
    else entries last type n id (span c.period.end left.end ∷ keys))
    (λ c m. MatchBool (c.period.end == left.end) (Runs last type n (id + 1) keys m)
    (Runs last type n id (span c.period.end left.end ∷ keys) m)) (reads_entry last type id left)
    (λ c h. reads_if (c.period.end == left.end) (entries last type n (id + 1) keys)
    (entries last type n id (span c.period.end left.end ∷ keys))
    (Runs last type n (id + 1) keys)
    (Runs last type n id (span c.period.end left.end ∷ keys)) (flat_map cell_bytes)
    (reads_entries last type n (id + 1) keys)
    (reads_entries last type n id (span c.period.end left.end ∷ keys)))

-- so many of them
both_ways : (b : Bool) (P Q R S : Type 0) → (P → R) → (Q → S) → MatchBool b P Q → MatchBool b R S
both_ways true P Q R S f g h = f h
both_ways false P Q R S f g h = g h

counted : (b : Bool) (P Q : Type 0) (m n : ℕ) → (P → m ≡ n) → (Q → m ≡ n) → MatchBool b P Q → m ≡ n
counted true P Q m n f g h = f h
counted false P Q m n f g h = g h

so_many_entries : (last : Option ℕ) (type : ColType) (n id : ℕ) (keys : List Span) (l : List Cell)
    → Runs last type n id keys l → length l ≡ n
so_many_entries last type zero id [] l h = ap length h
so_many_entries last type zero id (left ∷ keys) l h = absurd h
so_many_entries last type (suc n) id [] l h = absurd h
so_many_entries last type (suc n) id (left ∷ keys) [] h = absurd h
so_many_entries last type (suc n) id (left ∷ keys) (c ∷ l) h =
    ap suc (counted (c.period.end == left.end) (Runs last type n (id + 1) keys l)
    (Runs last type n id (span c.period.end left.end ∷ keys) l) (length l) n
    (λ r. so_many_entries last type n (id + 1) keys l r)
    (λ r. so_many_entries last type n id (span c.period.end left.end ∷ keys) l r) h.1)

run_of : (last : Option ℕ) (type : ColType) (id : ℕ) (keys : List Span) (l : List Cell)
    → Runs last type (length l) id keys l → Run last type id keys l
run_of last type id [] [] h = tt
run_of last type id (left ∷ keys) [] h = absurd h
run_of last type id [] (c ∷ l) h = absurd h
run_of last type id (left ∷ keys) (c ∷ l) h = (
  h.0,
  both_ways (c.period.end == left.end) (Runs last type (length l) (id + 1) keys l)
      (Runs last type (length l) id (span c.period.end left.end ∷ keys) l)
      (Run last type (id + 1) keys l)
      (Run last type id (span c.period.end left.end ∷ keys) l)
      (λ r. run_of last type (id + 1) keys l r)
      (λ r. run_of last type id (span c.period.end left.end ∷ keys) l r) h.1,
)

of_run : (last : Option ℕ) (type : ColType) (id : ℕ) (keys : List Span) (l : List Cell)
    → Run last type id keys l → Runs last type (length l) id keys l
of_run last type id [] [] h = refl
of_run last type id (left ∷ keys) [] h = absurd h
of_run last type id [] (c ∷ l) h = absurd h
of_run last type id (left ∷ keys) (c ∷ l) h = (
  h.0,
  both_ways (c.period.end == left.end) (Run last type (id + 1) keys l)
      (Run last type id (span c.period.end left.end ∷ keys) l)
      (Runs last type (length l) (id + 1) keys l)
      (Runs last type (length l) id (span c.period.end left.end ∷ keys) l)
      (λ r. of_run last type (id + 1) keys l r)
      (λ r. of_run last type id (span c.period.end left.end ∷ keys) l r) h.1,
)

abbrev pub ColumnRead : Option ℕ → List Span → ColType → List Cell → Type 0
ColumnRead last keys type l = (length l ≤ most_64) × Run last type 0 keys l

pub reads_column : (last : Option ℕ) (keys : List Span) (type : ColType)
    → Reads (column_entries last keys type) (ColumnRead last keys type) (list_bytes 8 cell_bytes)
unfolding column_entries
reads_column last keys type =
    reads_so (column_entries last keys type) (λ l. (length l ≤ most_64)
    × Runs last type (length l) 0 keys l) (ColumnRead last keys type) (list_bytes 8 cell_bytes)
    (list_bytes 8 cell_bytes)
    (λ l h. ((h.0, run_of last type 0 keys l h.1), refl))
    (λ l h. (h.0, of_run last type 0 keys l h.1))
    (reads_counted (item number_64) 8 most_64 reads_count cell_bytes
    (λ n. entries last type n 0 keys) (λ n l. Runs last type n 0 keys l)
    (λ n l h. so_many_entries last type n 0 keys l h)
    (λ n. reads_entries last type n 0 keys))

-- column by column
abbrev pub ColumnsRead : Option ℕ → List Span → List Column → List (List Cell) → Type 0
ColumnsRead last keys [] l = l ≡ []
ColumnsRead last keys (c ∷ rest) l = Led (ColumnRead last keys c.1)
    (λ cells m. ColumnsRead last keys rest m) l

pub reads_columns : (last : Option ℕ) (keys : List Span) (cs : List Column)
    → Reads (columns last keys cs) (ColumnsRead last keys cs) (flat_map (list_bytes 8 cell_bytes))
unfolding columns
reads_columns last keys [] = reads_none (list_bytes 8 cell_bytes)
reads_columns last keys (c ∷ rest) =
    reads_led (column_entries last keys c.1) (ColumnRead last keys c.1) (list_bytes 8 cell_bytes)
    (λ cells. columns last keys rest) (λ cells m. ColumnsRead last keys rest m)
    (reads_column last keys c.1) (λ cells h. reads_columns last keys rest)

-- ---- lifelines

abbrev pub Head : Type 0
Head = (ℕ × ℕ) × List ℕ

abbrev pub IsHead : Head → Type 0
IsHead x = ((x.0.0 ≤ most_32) × (x.0.1 ≤ most_32)) × IsName x.1

abbrev pub head_bytes : Head → List ℕ
head_bytes x = (number 4 x.0.0 ++ number 4 x.0.1) ++ name_bytes x.1

pub reads_head : Reads line_head IsHead head_bytes
unfolding line_head
reads_head = reads_pair (pair number_32 number_32) (λ x. (x.0 ≤ most_32) × (x.1 ≤ most_32))
    (λ x. number 4 x.0 ++ number 4 x.1) name IsName name_bytes
    (reads_pair number_32 (λ n. n ≤ most_32) (λ n. number 4 n) number_32 (λ n. n ≤ most_32)
    (λ n. number 4 n) reads_32 reads_32) (reads_correct name IsName name_bytes name_correct)

-- the lifeline's numbers and its name can be spelled
abbrev pub LineFits : Lifeline → Type 0
LineFits l = ((l.first ≤ most_32) × (last_number l.last ≤ most_32)) × IsName l.table

-- what is kept over a lifeline that is due
abbrev pub BodyRead : Option ℕ → Lifeline → StoredLine → Type 0
BodyRead last due l = (l.line ≡ due) × KeysRead last l.keys
    × ColumnsRead last l.keys due.columns l.cells

abbrev pub body_bytes : StoredLine → List ℕ
body_bytes l = list_bytes 8 span_bytes l.keys ++ flat_map (list_bytes 8 cell_bytes) l.cells

abbrev pub AfterKeys : Option ℕ → Lifeline → List Span → StoredLine → Type 0
AfterKeys last due ks l = (l.line ≡ due) × (l.keys ≡ ks) × ColumnsRead last ks due.columns l.cells

pub reads_body : (last : Option ℕ) (due : Lifeline)
    → Reads (bind (keys last) (λ ks. map_to (a_line due ks) (columns last ks due.columns)))
    (BodyRead last due) body_bytes
reads_body last due =
    reads_then (keys last) (KeysRead last) (list_bytes 8 span_bytes)
    (λ ks. map_to (a_line due ks) (columns last ks due.columns)) (AfterKeys last due)
    (λ ks l. flat_map (list_bytes 8 cell_bytes) l.cells)
    (BodyRead last due) body_bytes (reads_keys last)
    (λ ks h. reads_map (columns last ks due.columns) (ColumnsRead last ks due.columns)
    (flat_map (list_bytes 8 cell_bytes)) (reads_columns last ks due.columns) (a_line due ks)
    (AfterKeys last due ks)
    (λ l. flat_map (list_bytes 8 cell_bytes) l.cells) (λ cells k. ((refl, refl, k), refl))
    (λ l k. (
      l.cells,
      k.2,
      ap (λ x. a_line x l.keys l.cells) k.0
          ∙ ap (λ x. a_line due x l.cells) k.1,
    )))
    (λ ks l h k. (
      (
        k.0,
        subst (KeysRead last) (sym k.1) h,
        subst (λ x. ColumnsRead last x due.columns l.cells) (sym k.1) k.2,
      ),
      ap (λ x. list_bytes 8 span_bytes x ++ flat_map (list_bytes 8 cell_bytes) l.cells) k.1,
    ))
    (λ l h. (l.keys, h.1, (h.0, refl, h.2)))

abbrev pub LineRead : Option ℕ → Lifeline → StoredLine → Type 0
LineRead last due l = (LineFits due × BodyRead last due l) × (has_apart l ≡ true)

pub head_is : (due : Lifeline) (x : Head) → is_line due x ≡ true → (x.0.0 ≡ due.first)
    × (x.0.1 ≡ last_number due.last) × (x.1 ≡ due.table)
head_is due x e =
    let a = of_both (x.0.0 == due.first && x.0.1 == last_number due.last) (same x.1 due.table) e in
    let b = of_both (x.0.0 == due.first) (x.0.1 == last_number due.last) a.0 in (
      eqb-true x.0.0 due.first b.0,
      eqb-true x.0.1 (last_number due.last) b.1,
      same_is x.1 due.table a.1,
    )

pub own_head : (due : Lifeline) → is_line due ((due.first, last_number due.last), due.table) ≡ true
own_head due = both_true (due.first == due.first && last_number due.last == last_number due.last)
    (same due.table due.table)
    (both_true (due.first == due.first) (last_number due.last == last_number due.last)
    (number_itself due.first) (number_itself (last_number due.last))) (same_itself due.table)

pub head_encoded : (due : Lifeline) (x : Head) (l : StoredLine) → is_line due x ≡ true
    → l.line ≡ due
    → stored_bytes l ≡ head_bytes x ++ body_bytes l
head_encoded due x l e q =
    let h = head_is due x e in
    append_assoc (line_bytes l.line) (list_bytes 8 span_bytes l.keys)
    (flat_map (list_bytes 8 cell_bytes) l.cells)
    ∙ ap (λ y. line_bytes y ++ body_bytes l) q
    ∙ ap (λ n. (number 4 n ++ number 4 (last_number due.last) ++ name_bytes due.table)
    ++ body_bytes l) (sym h.0)
    ∙ ap (λ n. (number 4 x.0.0 ++ number 4 n ++ name_bytes due.table) ++ body_bytes l) (sym h.1)
    ∙ ap (λ n. (number 4 x.0.0 ++ number 4 x.0.1 ++ name_bytes n) ++ body_bytes l) (sym h.2)

pub head_fits : (due : Lifeline) (x : Head) → IsHead x → is_line due x ≡ true → LineFits due
head_fits due x h e =
    let k = head_is due x e in
    ((subst (λ n. n ≤ most_32) k.0 h.0.0, subst (λ n. n ≤ most_32) k.1 h.0.1), subst IsName k.2 h.1)

-- what is kept over a lifeline, read before its rows are compared
abbrev pub kept_line : Option ℕ → Lifeline → Parser StoredLine
kept_line last due = bind (item (checked (is_line due) line_head))
    (λ head. bind (keys last) (λ ks. map_to (a_line due ks) (columns last ks due.columns)))

pub reads_due : (due : Lifeline) → Reads (item (checked (is_line due) line_head))
    (λ x. IsHead x × (is_line due x ≡ true)) head_bytes
reads_due due = reads_item (checked (is_line due) line_head) (λ x. IsHead x
    × (is_line due x ≡ true)) head_bytes
    (reads_checked line_head IsHead head_bytes reads_head (is_line due))

pub reads_kept : (last : Option ℕ) (due : Lifeline)
    → Reads (kept_line last due) (λ l. LineFits due × BodyRead last due l) stored_bytes
reads_kept last due =
    reads_then (item (checked (is_line due) line_head)) (λ x. IsHead x × (is_line due x ≡ true))
    head_bytes (λ head. bind (keys last) (λ ks.
    map_to (a_line due ks) (columns last ks due.columns)))
    (λ x l. BodyRead last due l) (λ x l. body_bytes l) (λ l. LineFits due × BodyRead last due l)
    stored_bytes (reads_due due)
    (λ x h. reads_body last due)
    (λ x l h k. ((head_fits due x h.0 h.1, k), head_encoded due x l h.1 k.0))
    (λ l h. (((due.first, last_number due.last), due.table), (h.0, own_head due), h.1))

reads_line : (last : Option ℕ) (due : Lifeline)
    → Reads (stored_line last due) (LineRead last due) stored_bytes
unfolding stored_line
reads_line last due = reads_checked (kept_line last due) (λ l. LineFits due × BodyRead last due l)
    stored_bytes (reads_kept last due) has_apart

abbrev pub LinesRead : Option ℕ → ℕ → List Lifeline → List StoredLine → Type 0
LinesRead last zero [] l = l ≡ []
LinesRead last zero (due ∷ rest) l = ⊥
LinesRead last (suc n) [] l = ⊥
LinesRead last (suc n) (due ∷ rest) l = Led (LineRead last due) (λ x m. LinesRead last n rest m) l

reads_lines : (last : Option ℕ) (n : ℕ) (due : List Lifeline)
    → Reads (lines last n due) (LinesRead last n due) (flat_map stored_bytes)
unfolding lines
reads_lines last zero [] = reads_none stored_bytes
reads_lines last zero (due ∷ rest) = reads_missing (flat_map stored_bytes)
reads_lines last (suc n) [] = reads_missing (flat_map stored_bytes)
reads_lines last (suc n) (due ∷ rest) = reads_led (stored_line last due) (LineRead last due)
    stored_bytes (λ l. lines last n rest) (λ x m. LinesRead last n rest m) (reads_line last due)
    (λ l h. reads_lines last n rest)

so_many_lines : (last : Option ℕ) (n : ℕ) (due : List Lifeline) (l : List StoredLine)
    → LinesRead last n due l → length l ≡ n
so_many_lines last zero [] l h = ap length h
so_many_lines last zero (due ∷ rest) l h = absurd h
so_many_lines last (suc n) [] l h = absurd h
so_many_lines last (suc n) (due ∷ rest) [] h = absurd h
so_many_lines last (suc n) (due ∷ rest) (x ∷ l) h = ap suc (so_many_lines last n rest l h.1)

abbrev pub AllLinesRead : Option ℕ → List Lifeline → List StoredLine → Type 0
AllLinesRead last due l = (length l ≤ most_32) × LinesRead last (length l) due l

pub reads_all_lines : (last : Option ℕ) (due : List Lifeline)
    → Reads (all_lines last due) (AllLinesRead last due) (list_bytes 4 stored_bytes)
unfolding all_lines
reads_all_lines last due = reads_counted (item number_32) 4 most_32
    (reads_item number_32 (λ n. n ≤ most_32) (λ n. number 4 n) reads_32) stored_bytes
    (λ n. lines last n due)
    (λ n l. LinesRead last n due l) (λ n l h. so_many_lines last n due l h)
    (λ n. reads_lines last n due)

-- ---- images

pub record ImageRead (i : Image) : Type 0 where
  pub last : IsLast i.last
  pub versions : AllRead i.last i.versions
  pub lines : AllLinesRead i.last (lifelines_of i.versions) i.lines

whole_bytes : (i : Image) → image_bytes i ≡ last_bytes i.last
    ++ (list_bytes 4 version_bytes i.versions ++ list_bytes 4 stored_bytes i.lines)
whole_bytes i = append_assoc (last_bytes i.last) (list_bytes 4 version_bytes i.versions)
    (list_bytes 4 stored_bytes i.lines)

-- what is read is so, and has these bytes
abbrev IsOf : List ℕ → Image → List ℕ → Type 0
IsOf bytes i rest = ImageRead i × (bytes ≡ image_bytes i) × (rest ≡ [])

third : (last : Option ℕ) (vs : List PlainVersion) (ts : List ℕ) → IsLast last → AllRead last vs
    → (i : Image) (rest : List ℕ) (o : Out (List StoredLine))
    → all_lines last (lifelines_of vs) ts ≡ o
    → and_then o (λ ls. nothing_after (an_image last vs ls)) ≡ Parsed i rest
    → (ImageRead i × (i.last ≡ last) × (i.versions ≡ vs))
    × (ts ≡ list_bytes 4 stored_bytes i.lines) × (rest ≡ [])
third last vs ts h k i rest (Parsed ls []) e g =
    let is : an_image last vs ls ≡ i = cc in
    let same : [] ≡ rest = cc in
    let x = (reads_all_lines last (lifelines_of vs)).sound ts ls [] e in
    subst (λ j. (ImageRead j × (j.last ≡ last) × (j.versions ≡ vs))
    × (ts ≡ list_bytes 4 stored_bytes j.lines) × (rest ≡ [])) is (
      (record { last = h; versions = k; lines = x.0 }, refl, refl),
      x.1
          ∙ append-nil (list_bytes 4 stored_bytes ls),
      sym same,
    )
third last vs ts h k i rest (Parsed ls (b ∷ more)) e g = absurd (cc)
third last vs ts h k i rest (Unexpected more) e g = absurd (cc)

second : (last : Option ℕ) (ts : List ℕ) → IsLast last
    → (i : Image) (rest : List ℕ) (o : Out (List PlainVersion)) → all_versions last ts ≡ o
    → and_then o (λ vs. bind (all_lines last (lifelines_of vs))
    (λ ls. nothing_after (an_image last vs ls))) ≡ Parsed i rest
    → (ImageRead i × (i.last ≡ last)) × (ts ≡ list_bytes 4 version_bytes i.versions
    ++ list_bytes 4 stored_bytes i.lines) × (rest ≡ [])
second last ts h i rest (Parsed vs more) e g =
    let x = (reads_all_versions last).sound ts vs more e in
    let y = third last vs more h x.0 i rest (all_lines last (lifelines_of vs) more) refl g in (
      (y.0.0, y.0.1),
      x.1 ∙ ap (λ l. list_bytes 4 version_bytes vs ++ l) y.1
          ∙ ap (λ l. list_bytes 4 version_bytes l ++ list_bytes 4 stored_bytes i.lines) (sym y.0.2),
      y.2,
    )
second last ts h i rest (Unexpected more) e g = absurd (cc)

first : (ts : List ℕ) (i : Image) (rest : List ℕ) (o : Out (Option ℕ)) → last_stamp ts ≡ o
    → and_then o (λ last. bind (all_versions last)
    (λ vs. bind (all_lines last (lifelines_of vs)) (λ ls. nothing_after (an_image last vs ls))))
    ≡ Parsed i rest → IsOf ts i rest
first ts i rest (Parsed last more) e g =
    let x = reads_last.sound ts last more e in
    let y = second last more x.0 i rest (all_versions last more) refl g in (
      y.0.0,
      x.1 ∙ ap (λ l. last_bytes last ++ l) y.1
          ∙ ap (λ l. last_bytes l ++ (list_bytes 4 version_bytes i.versions
          ++ list_bytes 4 stored_bytes i.lines)) (sym y.0.1) ∙ sym (whole_bytes i),
      y.2,
    )
first ts i rest (Unexpected more) e g = absurd (cc)

pub read_image : (bytes : List ℕ) (i : Image) (rest : List ℕ) → image bytes ≡ Parsed i rest
    → IsOf bytes i rest
unfolding image
read_image bytes i rest e = first bytes i rest (last_stamp bytes) refl e

pub image_read : (i : Image) → ImageRead i → image (image_bytes i) ≡ Parsed i []
unfolding image
image_read i h =
    ap (λ l. and_then (last_stamp l) (λ last.
    bind (all_versions last) (λ vs. bind (all_lines last (lifelines_of vs))
    (λ ls. nothing_after (an_image last vs ls))))) (whole_bytes i)
    ∙ ap (λ o. and_then o (λ last. bind (all_versions last)
    (λ vs. bind (all_lines last (lifelines_of vs))
    (λ ls. nothing_after (an_image last vs ls)))))
    (reads_last.complete i.last h.last (list_bytes 4 version_bytes i.versions
    ++ list_bytes 4 stored_bytes i.lines))
    ∙ ap (λ o. and_then o (λ vs. bind (all_lines i.last (lifelines_of vs))
    (λ ls. nothing_after (an_image i.last vs ls))))
    ((reads_all_versions i.last).complete i.versions h.versions (list_bytes 4 stored_bytes i.lines))
    ∙ ap (λ l. and_then (all_lines i.last (lifelines_of i.versions) l)
    (λ ls. nothing_after (an_image i.last i.versions ls)))
    (sym (append-nil (list_bytes 4 stored_bytes i.lines)))
    ∙ ap (λ o. and_then o (λ ls. nothing_after (an_image i.last i.versions ls)))
    ((reads_all_lines i.last (lifelines_of i.versions)).complete i.lines h.lines [])
