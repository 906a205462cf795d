-- Where the reader stops in a part of an image: what stands before are the first items of such a
-- part.
use Rattle.std.proofs.Common.{◌≡◌, inl, inr, ℕ, zero, suc, ◌+◌, ◌*◌, ◌^◌, ◌<◌, ◌≤◌, ◌==◌}
use Rattle.std.proofs.Common.{Bool, true, false, List, [], ◌∷◌, ◌++◌, length, refl}
use Rattle.std.proofs.Common.{sym, ap, ◌∙◌, subst, append_assoc, arith}
use Rattle.std.specs.Prelude.{Option, Some, None, MatchBool, if◌then◌else◌}
use Rattle.relations_spec.specs.Spans.{Span, span}
use Rattle.prima_base.specs.Columns.{Column}
use Rattle.prima_base.specs.declared.value.ColType.{ColType}
use Rattle.schema_catalog.specs.Tables.{Tables}
use Rattle.history_store_spec.specs.Store.{Cell}
use Rattle.smo_ops_types.specs.Commands.{PlainVersion}
use Rattle.smo_ops_spec.specs.Past.{no_tables}
use Rattle.command_codec_spec.specs.Reading.{Out, Parsed, Unexpected, Parser, and_then, bind}
use Rattle.command_codec_spec.specs.Reading.{map_to, items, pair}
use Rattle.command_codec_spec.specs.Encoding.{number, list_bytes}
use Rattle.command_codec_spec.specs.Reader.{number_64, value}
use Rattle.command_codec_spec.proofs.Correctness.{true_false}
use Rattle.store_image_spec.specs.Encoding.{version_bytes, span_bytes, cell_bytes}
use Rattle.store_image_spec.specs.Items.{named_at, item, checked}
use Rattle.store_image_spec.specs.ItemChecks.{is_version, is_period, is_due}
use Rattle.store_image_spec.specs.Reader.{number_32, version, evolution, versions, all_versions}
use Rattle.store_image_spec.specs.Reader.{period, key, keys, cell_of, entry, entries}
use Rattle.store_image_spec.specs.Reader.{column_entries, columns}
use Rattle.store_image_spec.proofs.Checking.{number_itself, period_up_to, is_period_so}
use Rattle.store_image_spec.proofs.Filling.{due_is}
use Rattle.store_image_spec.proofs.Formats.{Reads, reads_item}
use Rattle.store_image_spec.proofs.ReadParts.{most_32, most_64, reads_32, reads_count}
use Rattle.store_image_spec.proofs.ReadParts.{reads_version, AreRead, IsKey, reads_key, reads_entry}
use Rattle.store_image_spec.proofs.ReadParts.{IsEntry, Run, reads_column}
use Rattle.store_image_breaks_spec.specs.Agreement.{IsNone, AreFirst, BeginsList}
use Rattle.store_image_breaks_spec.specs.Agreement.{BeginsColumns}
use Rattle.store_image_breaks_spec.proofs.Openly.{map_stops}
use Rattle.store_image_breaks_spec.proofs.Filled.{one_each, AreKeys, one_each_runs, ColumnsRun}
use Rattle.store_image_breaks_spec.proofs.Filled.{one_each_column, columns_run}

-- what is read agrees, up to the place, with something that is so
pub record Stopped {A : Type 0} (Is : A → Type 0) (Begins : A → List ℕ → Type 0)
    (ts rest : List ℕ) : Type 0 where
  pub found : A
  pub is : Is found
  pub first : List ℕ
  pub begins : Begins found first
  pub are : ts ≡ first ++ rest

-- ---- items

pub item_stops : {A : Type 0} (p : Parser A) (ts rest : List ℕ) → item p ts ≡ Unexpected rest
    → ts ≡ rest
item_stops {A} p ts rest e = step (p ts) e
  where
    step : (o : Out A) → named_at ts o ≡ Unexpected rest → ts ≡ rest
    step (Parsed a more) g = absurd (cc)
    step (Unexpected more) g = cc

-- behind one that was read
pub behind : (bytes ts us first rest : List ℕ) → ts ≡ bytes ++ us → us ≡ first ++ rest
    → ts ≡ (bytes ++ first) ++ rest
behind bytes ts us first rest e f = e ∙ ap (λ l. bytes ++ l) f ∙ sym (append_assoc bytes first rest)

-- ---- a count, and that many

module _ {A : Type 0} (width most : ℕ)
    (fits : (n : ℕ) → n ≤ most → n < 2 ^ (8 * width)) (counted : Parser ℕ)
    (rn : Reads (item counted) (λ n. n ≤ most) (λ n. number width n)) (p : ℕ → Parser (List A))
    (Is : List A → Type 0) (Part : A → List ℕ → Type 0) (encode : A → List ℕ) (some : List A)
    (some_is : Is some) (stops : (n : ℕ) (ts rest : List ℕ) → n ≤ most → p n ts ≡ Unexpected rest
    → Stopped Is (AreFirst Part encode n) ts rest) where
  pub list_stops : (ts rest : List ℕ) → bind (item counted) p ts ≡ Unexpected rest
      → Stopped Is (BeginsList width Part encode) ts rest
  list_stops ts rest e = step (item counted ts) refl e
    where
      step : (o : Out ℕ) → item counted ts ≡ o → and_then o p ≡ Unexpected rest
          → Stopped Is (BeginsList width Part encode) ts rest
      step (Parsed n us) q g =
          let x = rn.sound ts n us q in
          let s = stops n us rest x.0 g in
          record {
            found = s.found;
            is = s.is;
            first = number width n ++ s.first;
            begins = inr (n, s.first, fits n x.0, refl, s.begins);
            are = behind (number width n) ts us s.first rest x.1 s.are;
          }
      step (Unexpected us) q g =
          let same : us ≡ rest = cc in
          record {
            found = some;
            is = some_is;
            first = [];
            begins = inl refl;
            are = item_stops counted ts us q ∙ same;
          }

fits_32 : (n : ℕ) → n ≤ most_32 → n < 2 ^ (8 * 4)
fits_32 n h = omega (arith, h)

fits_64 : (n : ℕ) → n ≤ most_64 → n < 2 ^ (8 * 8)
fits_64 n h = omega (arith, h)

pub counted_32 : Reads (item number_32) (λ n. n ≤ most_32) (λ n. number 4 n)
counted_32 = reads_item number_32 (λ n. n ≤ most_32) (λ n. number 4 n) reads_32

-- ---- versions

-- valid ones, however many
abbrev pub AreSoFar : Option ℕ → ℕ → Option ℕ → Tables → List PlainVersion → Type 0
AreSoFar last number before tables l = AreRead last (length l) number before tables l

versions_stop : (last : Option ℕ) (n number : ℕ) (before : Option ℕ) (tables : Tables)
    (ts rest : List ℕ) → versions last n number before tables ts ≡ Unexpected rest
    → Stopped (AreSoFar last number before tables) (AreFirst (λ v. IsNone) version_bytes n) ts rest
unfolding versions version
versions_stop last zero number before tables ts rest e = absurd (cc)
versions_stop last (suc n) number before tables ts rest e =
    step (λ v us f. versions_stop last n (number + 1) (Some v.stamp) v.tables us rest f)
    (version last number before tables ts) refl e
  where
    stuck : (us : List ℕ) → version last number before tables ts ≡ Unexpected us → ts ≡ us
    stuck us q = item_stops (checked (is_version last number before tables) (evolution tables)) ts
        us q

    step : ((v : PlainVersion) (us : List ℕ)
        → versions last n (number + 1) (Some v.stamp) v.tables us ≡ Unexpected rest
        → Stopped (AreSoFar last (number + 1) (Some v.stamp) v.tables)
        (AreFirst (λ x. IsNone) version_bytes n) us rest)
        → (o : Out PlainVersion) → version last number before tables ts ≡ o
        → and_then o (λ v. map_to (λ vs. v ∷ vs)
        (versions last n (number + 1) (Some v.stamp) v.tables)) ≡ Unexpected rest
        → Stopped (AreSoFar last number before tables)
        (AreFirst (λ v. IsNone) version_bytes (suc n)) ts rest
    step again (Parsed v us) q g =
        let x = (reads_version last number before tables).sound ts v us q in
        let s = again v us
        (map_stops (λ vs. v ∷ vs) (versions last n (number + 1) (Some v.stamp) v.tables us) rest g)
        in
        record {
          found = v ∷ s.found;
          is = (x.0, s.is);
          first = version_bytes v ++ s.first;
          begins = inr (s.first, refl, s.begins);
          are = behind (version_bytes v) ts us s.first rest x.1 s.are;
        }
    step again (Unexpected us) q g =
        let same : us ≡ rest = cc in
        record { found = []; is = refl; first = []; begins = refl; are = stuck us q ∙ same }

pub all_versions_stop : (last : Option ℕ) (ts rest : List ℕ)
    → all_versions last ts ≡ Unexpected rest
    → Stopped (AreSoFar last 0 None no_tables) (BeginsList 4 (λ v. IsNone) version_bytes) ts rest
unfolding all_versions
all_versions_stop last = list_stops 4 most_32 fits_32 number_32 counted_32
    (λ n. versions last n 0 None no_tables) (AreSoFar last 0 None no_tables) (λ v. IsNone)
    version_bytes [] refl (λ n ts rest h e. versions_stop last n 0 None no_tables ts rest e)

-- ---- keys

-- so many at most
abbrev KeysSoFar : Option ℕ → ℕ → List Span → Type 0
KeysSoFar last n l = (length l ≤ n) × AreKeys last l

key_items_stop : (last : Option ℕ) (n : ℕ) (ts rest : List ℕ)
    → items (key last) n ts ≡ Unexpected rest
    → Stopped (KeysSoFar last n) (AreFirst (λ p. IsNone) span_bytes n) ts rest
unfolding items key
key_items_stop last zero ts rest e = absurd (cc)
key_items_stop last (suc n) ts rest e =
    step (λ us f. key_items_stop last n us rest f) (key last ts) refl e
  where
    stuck : (us : List ℕ) → key last ts ≡ Unexpected us → ts ≡ us
    stuck us q = item_stops (checked (is_period last) period) ts us q

    step : ((us : List ℕ) → items (key last) n us ≡ Unexpected rest
        → Stopped (KeysSoFar last n) (AreFirst (λ p. IsNone) span_bytes n) us rest)
        → (o : Out Span) → key last ts ≡ o
        → and_then o (λ k. map_to (λ l. k ∷ l) (items (key last) n)) ≡ Unexpected rest
        → Stopped (KeysSoFar last (suc n)) (AreFirst (λ p. IsNone) span_bytes (suc n)) ts rest
    step again (Parsed k us) q g =
        let x = (reads_key last).sound ts k us q in
        let s = again us
        (map_stops (λ l. k ∷ l) (items (key last) n us) rest g) in
        let few = s.is.0 in
        record {
          found = k ∷ s.found;
          is = (omega (arith, few), (x.0, s.is.1));
          first = span_bytes k ++ s.first;
          begins = inr (s.first, refl, s.begins);
          are = behind (span_bytes k) ts us s.first rest x.1 s.are;
        }
    step again (Unexpected us) q g =
        let same : us ≡ rest = cc in
        record {
          found = [];
          is = (omega arith, refl);
          first = [];
          begins = refl;
          are = stuck us q ∙ same;
        }

pub keys_stop : (last : Option ℕ) (ts rest : List ℕ) → keys last ts ≡ Unexpected rest
    → Stopped (KeysSoFar last most_64) (BeginsList 8 (λ p. IsNone) span_bytes) ts rest
unfolding keys
keys_stop last = list_stops 8 most_64 fits_64 number_64 reads_count (λ n. items (key last) n)
    (KeysSoFar last most_64) (λ p. IsNone) span_bytes [] (omega arith, refl)
    (λ n ts rest h e. (let s = key_items_stop last n ts rest e in let few = s.is.0 in
    record {
      found = s.found;
      is = (omega (arith, few, h), s.is.1);
      first = s.first;
      begins = s.begins;
      are = s.are;
    }))

-- ---- entries

strictly : (m n : ℕ) → m ≤ n → (m ≡ n → ⊥) → m < n
strictly m n h f = omega arith

-- what is left of a key behind an entry that does not end it
left_is_key : (last : Option ℕ) (type : ColType) (id : ℕ) (left : Span) (c : Cell)
    → IsKey last left → IsEntry last type id left c → (c.period.end ≡ left.end → ⊥)
    → IsKey last (span c.period.end left.end)
left_is_key last type id left c key entry different =
    let due = due_is last type id left c entry.1 in
    let within = due.within in
    let ends = key.0.1 in
    let own_ends = entry.0.1.1 in
    let shorter = strictly c.period.end left.end within different in (
      (own_ends, ends),
      is_period_so last (span c.period.end left.end) (shorter, ends)
          ((period_up_to last c.period due.period).1, (period_up_to last left key.1).1),
    )

module _ (last : Option ℕ) (type : ColType) where
  abbrev Entered : ℕ → ℕ → List Span → List ℕ → List ℕ → Type 0
  Entered n id due ts rest =
      Stopped (Run last type id due) (AreFirst (λ c. IsNone) cell_bytes n) ts rest

  nothing_entered : (n id : ℕ) (due : List Span) (ts rest : List ℕ) → AreKeys last due
      → id + length due < 2 ^ 64 → AreFirst (λ c. IsNone) cell_bytes n (one_each type id due) []
      → ts ≡ rest → Entered n id due ts rest
  nothing_entered n id due ts rest are few begins same = record {
    found = one_each type id due;
    is = one_each_runs last type id due are few;
    first = [];
    begins = begins;
    are = same;
  }

  entries_stop : (n id : ℕ) (due : List Span) (ts rest : List ℕ) → AreKeys last due
      → id + length due < 2 ^ 64 → entries last type n id due ts ≡ Unexpected rest
      → Entered n id due ts rest
  unfolding entries entry
  entries_stop zero id [] ts rest are few e = absurd (cc)
  entries_stop zero id (left ∷ due) ts rest are few e =
      nothing_entered zero id (left ∷ due) ts rest are few refl (let same : ts ≡ rest = cc in same)
  entries_stop (suc n) id [] ts rest are few e =
      nothing_entered (suc n) id [] ts rest are few refl (let same : ts ≡ rest = cc in same)
  entries_stop (suc n) id (left ∷ due) ts rest are few e =
      step (λ i ks us a f g. entries_stop n i ks us rest a f g) (entry last type id left ts) refl e
    where
      stuck : (us : List ℕ) → entry last type id left ts ≡ Unexpected us → ts ≡ us
      stuck us q = item_stops (checked (is_due last type id left)
          (map_to cell_of (pair (pair number_64 value) period))) ts us q

      next : Cell → Parser (List Cell)
      next c = if c.period.end == left.end then entries last type n (id + 1) due
          else entries last type n id (span c.period.end left.end ∷ due)

      one_more : (c : Cell) (us : List ℕ) → IsEntry last type id left c
          → ts ≡ cell_bytes c ++ us → (cells : List Cell) (first : List ℕ)
          → MatchBool (c.period.end == left.end) (Run last type (id + 1) due cells)
          (Run last type id (span c.period.end left.end ∷ due) cells)
          → AreFirst (λ x. IsNone) cell_bytes n cells first → us ≡ first ++ rest
          → Entered (suc n) id (left ∷ due) ts rest
      one_more c us entry same cells first runs begins are_us = record {
        found = c ∷ cells;
        is = (entry, runs);
        first = cell_bytes c ++ first;
        begins = inr (first, refl, begins);
        are = behind (cell_bytes c) ts us first rest same are_us;
      }

      by : ((i : ℕ) (ks : List Span) (us : List ℕ) → AreKeys last ks → i + length ks < 2 ^ 64
          → entries last type n i ks us ≡ Unexpected rest → Entered n i ks us rest)
          → (c : Cell) (us : List ℕ) → IsEntry last type id left c → ts ≡ cell_bytes c ++ us
          → (b : Bool) → (c.period.end == left.end) ≡ b
          → (if b then entries last type n (id + 1) due
          else entries last type n id (span c.period.end left.end ∷ due)) us ≡ Unexpected rest
          → Entered (suc n) id (left ∷ due) ts rest
      by again c us entry same true f g =
          let s = again (id + 1) due us are.1 (let k = few in omega (arith, k)) g in
          one_more c us entry same s.found s.first
          (subst (λ b. MatchBool b (Run last type (id + 1) due s.found)
          (Run last type id (span c.period.end left.end ∷ due) s.found)) (sym f) s.is) s.begins
          s.are
      by again c us entry same false f g =
          let other : c.period.end ≡ left.end → ⊥ =
          (λ q. true_false (sym (ap (λ x. x == left.end) q ∙ number_itself left.end) ∙ f)) in
          let s = again id (span c.period.end left.end ∷ due) us
          (left_is_key last type id left c are.0 entry other, are.1)
          (let k = few in omega (arith, k)) g in
          one_more c us entry same s.found s.first
          (subst (λ b. MatchBool b (Run last type (id + 1) due s.found)
          (Run last type id (span c.period.end left.end ∷ due) s.found)) (sym f) s.is) s.begins
          s.are

      step : ((i : ℕ) (ks : List Span) (us : List ℕ) → AreKeys last ks → i + length ks < 2 ^ 64
          → entries last type n i ks us ≡ Unexpected rest → Entered n i ks us rest)
          → (o : Out Cell) → entry last type id left ts ≡ o
          → and_then o (λ c. map_to (λ cs. c ∷ cs) (next c)) ≡ Unexpected rest
          → Entered (suc n) id (left ∷ due) ts rest
      step again (Parsed c us) q g =
          let x = (reads_entry last type id left).sound ts c us q in
          by again c us x.0 x.1 (c.period.end == left.end) refl
          (map_stops (λ cs. c ∷ cs) (next c us) rest g)
      step again (Unexpected us) q g =
          let same : us ≡ rest = cc in
          nothing_entered (suc n) id (left ∷ due) ts rest are few (inl refl) (stuck us q ∙ same)

  column_stops : (due : List Span) (ts rest : List ℕ) → AreKeys last due → length due < 2 ^ 64
      → column_entries last due type ts ≡ Unexpected rest
      → Stopped (Run last type 0 due) (BeginsList 8 (λ c. IsNone) cell_bytes) ts rest
  unfolding column_entries
  column_stops due ts rest are few =
      list_stops 8 most_64 fits_64 number_64 reads_count (λ n. entries last type n 0 due)
      (Run last type 0 due) (λ c. IsNone) cell_bytes (one_each type 0 due)
      (one_each_runs last type 0 due are (let k = few in omega (arith, k)))
      (λ n us r h e. entries_stop n 0 due us r are (let k = few in omega (arith, k)) e) ts rest

pub columns_stop : (last : Option ℕ) (due : List Span) (cs : List Column) (ts rest : List ℕ)
    → AreKeys last due → length due < 2 ^ 64 → columns last due cs ts ≡ Unexpected rest
    → Stopped (ColumnsRun last due cs) BeginsColumns ts rest
unfolding columns
columns_stop last due [] ts rest are few e = absurd (cc)
columns_stop last due (c ∷ cs) ts rest are few e =
    step (λ us f. columns_stop last due cs us rest are few f) (column_entries last due c.1 ts) refl
    e
  where
    step : ((us : List ℕ) → columns last due cs us ≡ Unexpected rest
        → Stopped (ColumnsRun last due cs) BeginsColumns us rest)
        → (o : Out (List Cell)) → column_entries last due c.1 ts ≡ o
        → and_then o (λ x. map_to (λ l. x ∷ l) (columns last due cs)) ≡ Unexpected rest
        → Stopped (ColumnsRun last due (c ∷ cs)) BeginsColumns ts rest
    step again (Parsed cells us) q g =
        let x = (reads_column last due c.1).sound ts cells us q in
        let s = again us
        (map_stops (λ l. cells ∷ l) (columns last due cs us) rest g) in
        record {
          found = cells ∷ s.found;
          is = (x.0.1, s.is);
          first = list_bytes 8 cell_bytes cells ++ s.first;
          begins = inr (s.first, refl, s.begins);
          are = behind (list_bytes 8 cell_bytes cells) ts us s.first rest x.1 s.are;
        }
    step again (Unexpected us) q g =
        let same : us ≡ rest = cc in
        let s = column_stops last c.1 due ts rest are few (q ∙ ap Unexpected same) in
        record {
          found = s.found ∷ one_each_column due cs;
          is = (s.is, columns_run last due cs are few);
          first = s.first;
          begins = inl s.begins;
          are = s.are;
        }
