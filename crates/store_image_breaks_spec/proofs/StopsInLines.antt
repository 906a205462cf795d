-- Where the reader that compares no rows stops: what stands before are the first items of an image,
-- or of what would be one but that two ids show one row.
use Rattle.std.proofs.Common.{◌≡◌, inl, inr, ℕ, zero, suc, ◌*◌, ◌^◌, ◌<◌, ◌≤◌, List, []}
use Rattle.std.proofs.Common.{◌∷◌, ◌++◌, length, refl, ap, ◌∙◌, subst}
use Rattle.std.proofs.Common.{arith}
use Rattle.std.proofs.Common.{true}
use Rattle.std.specs.Prelude.{Option, None}
use Rattle.relations_spec.specs.Spans.{Span}
use Rattle.prima_base.specs.Columns.{Column}
use Rattle.history_store_spec.specs.Store.{Cell}
use Rattle.smo_ops_types.specs.Commands.{PlainVersion}
use Rattle.smo_ops_spec.specs.Past.{no_tables}
use Rattle.command_codec_spec.specs.Reading.{Out, Parsed, Unexpected, and_then, bind, pure}
use Rattle.command_codec_spec.specs.Reading.{map_to, by_tag}
use Rattle.command_codec_spec.specs.Reader.{up_to}
use Rattle.command_codec_spec.specs.Encoding.{number, name_bytes, list_bytes}
use Rattle.smo_ops_versions_spec.specs.Lifelines.{Lifeline, lifelines_of}
use Rattle.store_image_spec.specs.Images.{StoredLine, Image}
use Rattle.store_image_spec.specs.Encoding.{last_number, last_bytes, version_bytes, span_bytes}
use Rattle.store_image_spec.specs.Encoding.{line_bytes, stored_bytes}
use Rattle.store_image_spec.specs.Items.{item, checked}
use Rattle.store_image_spec.specs.ItemChecks.{is_line}
use Rattle.store_image_spec.specs.Reader.{number_32, last_arm, last_stamp, all_versions, keys}
use Rattle.store_image_spec.specs.Reader.{columns, line_head, a_line, nothing_after, an_image}
use Rattle.store_image_spec.proofs.ReadParts.{IsLast, reads_last, reads_all_versions}
use Rattle.store_image_spec.proofs.ReadParts.{KeysRead, reads_keys, BodyRead, reads_due, head_is}
use Rattle.store_image_spec.proofs.ReadParts.{head_bytes, kept_line, reads_kept, ColumnsRead}
use Rattle.store_image_spec.proofs.ReadParts.{most_64}
use Rattle.store_image_breaks_spec.specs.Agreement.{AreFirst, BeginsList}
use Rattle.store_image_breaks_spec.specs.Agreement.{BeginsLine, BeginsImage}
use Rattle.store_image_breaks_spec.proofs.Openly.{open_lines, all_open_lines, open_image, map_stops}
use Rattle.store_image_breaks_spec.proofs.Filled.{AreKeys, ColumnsRun, one_each_column, columns_run}
use Rattle.store_image_breaks_spec.proofs.Stops.{Stopped, item_stops, behind}
use Rattle.store_image_breaks_spec.proofs.Stops.{counted_32, AreSoFar, all_versions_stop, keys_stop}
use Rattle.store_image_breaks_spec.proofs.Stops.{columns_stop}

-- ---- what is kept over a lifeline

-- what is read over one, rows not compared, and however many entries there are
pub record IsKept (last : Option ℕ) (due : Lifeline) (l : StoredLine) : Type 0 where
  pub line : l.line ≡ due
  pub few : length l.keys ≤ most_64
  pub keys : AreKeys last l.keys
  pub cells : ColumnsRun last l.keys due.columns l.cells

abbrev pub nothing_kept : Lifeline → StoredLine
nothing_kept due = a_line due [] (one_each_column [] due.columns)

nothing_is_kept : (last : Option ℕ) (due : Lifeline) → IsKept last due (nothing_kept due)
nothing_is_kept last due = record {
  line = refl;
  few = omega arith;
  keys = refl;
  cells = columns_run last [] due.columns refl (omega arith);
}

columns_kept : (last : Option ℕ) (keys : List Span) (cs : List Column)
    (l : List (List Cell)) → ColumnsRead last keys cs l → ColumnsRun last keys cs l
columns_kept last keys [] l h = h
columns_kept last keys (c ∷ cs) [] h = absurd h
columns_kept last keys (c ∷ cs) (x ∷ l) h = (h.0.1, columns_kept last keys cs l h.1)

pub read_kept : (last : Option ℕ) (due : Lifeline) (l : StoredLine) → BodyRead last due l
    → IsKept last due l
read_kept last due l h = record {
  line = h.0;
  few = h.1.0;
  keys = h.1.1;
  cells = columns_kept last l.keys due.columns l.cells h.2;
}

module _ (last : Option ℕ) (due : Lifeline) where
  head_same : (x : (ℕ × ℕ) × List ℕ) → is_line due x ≡ true → head_bytes x ≡ line_bytes due
  head_same x e =
      let h = head_is due x e in
      ap (λ n. number 4 n ++ number 4 x.0.1 ++ name_bytes x.1) h.0
      ∙ ap (λ n. number 4 due.first ++ number 4 n ++ name_bytes x.1) h.1
      ∙ ap (λ n. number 4 due.first ++ number 4 (last_number due.last) ++ name_bytes n) h.2

  in_columns : (ks : List Span) (ts us vs rest : List ℕ) → ts ≡ line_bytes due ++ us
      → us ≡ list_bytes 8 span_bytes ks ++ vs → KeysRead last ks
      → columns last ks due.columns vs ≡ Unexpected rest
      → Stopped (IsKept last due) BeginsLine ts rest
  in_columns ks ts us vs rest e f h g =
      let few = h.0 in
      let s = columns_stop last ks due.columns vs rest h.1 (omega (arith, few)) g in
      record {
        found = a_line due ks s.found;
        is = record { line = refl; few = h.0; keys = h.1; cells = s.is };
        first = line_bytes due ++ (list_bytes 8 span_bytes ks ++ s.first);
        begins = inr (list_bytes 8 span_bytes ks ++ s.first, refl, inr (s.first, refl, s.begins));
        are = behind (line_bytes due) ts us (list_bytes 8 span_bytes ks ++ s.first) rest e
            (behind (list_bytes 8 span_bytes ks) us vs s.first rest f s.are);
      }

  in_keys : (ts us rest : List ℕ) → ts ≡ line_bytes due ++ us → (o : Out (List Span))
      → keys last us ≡ o
      → and_then o (λ ks. map_to (a_line due ks) (columns last ks due.columns)) ≡ Unexpected rest
      → Stopped (IsKept last due) BeginsLine ts rest
  in_keys ts us rest e (Parsed ks vs) q g =
      let x = (reads_keys last).sound us ks vs q in
      in_columns ks ts us vs rest e x.1 x.0
      (map_stops (a_line due ks) (columns last ks due.columns vs) rest g)
  in_keys ts us rest e (Unexpected vs) q g =
      let same : vs ≡ rest = cc in
      let s = keys_stop last us rest (q ∙ ap Unexpected same) in
      let few = s.is.0 in
      record {
        found = a_line due s.found (one_each_column s.found due.columns);
        is = record {
          line = refl;
          few = s.is.0;
          keys = s.is.1;
          cells = columns_run last s.found due.columns s.is.1 (omega (arith, few));
        };
        first = line_bytes due ++ s.first;
        begins = inr (s.first, refl, inl s.begins);
        are = behind (line_bytes due) ts us s.first rest e s.are;
      }

  pub kept_stops : (ts rest : List ℕ) → kept_line last due ts ≡ Unexpected rest
      → Stopped (IsKept last due) BeginsLine ts rest
  kept_stops ts rest e = step (item (checked (is_line due) line_head) ts) refl e
    where
      step : (o : Out ((ℕ × ℕ) × List ℕ)) → item (checked (is_line due) line_head) ts ≡ o
          → and_then o (λ head. bind (keys last)
          (λ ks. map_to (a_line due ks) (columns last ks due.columns))) ≡ Unexpected rest
          → Stopped (IsKept last due) BeginsLine ts rest
      step (Parsed head us) q g =
          let x = (reads_due due).sound ts head us q in
          in_keys ts us rest (x.1 ∙ ap (λ l. l ++ us) (head_same head x.0.1)) (keys last us) refl g
      step (Unexpected us) q g =
          let same : us ≡ rest = cc in
          record {
            found = nothing_kept due;
            is = nothing_is_kept last due;
            first = [];
            begins = inl refl;
            are = item_stops (checked (is_line due) line_head) ts us q ∙ same;
          }

-- ---- lifelines

abbrev pub AreKept : Option ℕ → List Lifeline → List StoredLine → Type 0
AreKept last [] [] = Unit {0}
AreKept last [] (l ∷ ls) = ⊥
AreKept last (d ∷ due) [] = ⊥
AreKept last (d ∷ due) (l ∷ ls) = IsKept last d l × AreKept last due ls

abbrev pub nothing_over : List Lifeline → List StoredLine
nothing_over [] = []
nothing_over (d ∷ due) = nothing_kept d ∷ nothing_over due

pub nothing_is_over : (last : Option ℕ) (due : List Lifeline)
    → AreKept last due (nothing_over due)
nothing_is_over last [] = tt
nothing_is_over last (d ∷ due) = (nothing_is_kept last d, nothing_is_over last due)

module _ (last : Option ℕ) where
  open_stops : (n : ℕ) (due : List Lifeline) (ts rest : List ℕ)
      → open_lines last n due ts ≡ Unexpected rest
      → Stopped (AreKept last due) (AreFirst BeginsLine stored_bytes n) ts rest
  unfolding open_lines
  open_stops zero [] ts rest e = absurd (cc)
  open_stops zero (d ∷ due) ts rest e = record {
    found = nothing_over (d ∷ due);
    is = nothing_is_over last (d ∷ due);
    first = [];
    begins = refl;
    are = (let same : ts ≡ rest = cc in same);
  }
  open_stops (suc n) [] ts rest e = record {
    found = [];
    is = tt;
    first = [];
    begins = refl;
    are = (let same : ts ≡ rest = cc in same);
  }
  open_stops (suc n) (d ∷ due) ts rest e =
      step (λ us f. open_stops n due us rest f) (kept_line last d ts) refl e
    where
      step : ((us : List ℕ) → open_lines last n due us ≡ Unexpected rest
          → Stopped (AreKept last due) (AreFirst BeginsLine stored_bytes n) us rest)
          → (o : Out StoredLine) → kept_line last d ts ≡ o
          → and_then o (λ l. map_to (λ ls. l ∷ ls) (open_lines last n due)) ≡ Unexpected rest
          → Stopped (AreKept last (d ∷ due)) (AreFirst BeginsLine stored_bytes (suc n)) ts rest
      step again (Parsed l us) q g =
          let x = (reads_kept last d).sound ts l us q in
          let s = again us
          (map_stops (λ ls. l ∷ ls) (open_lines last n due us) rest g) in
          record {
            found = l ∷ s.found;
            is = (read_kept last d l x.0.1, s.is);
            first = stored_bytes l ++ s.first;
            begins = inr (s.first, refl, s.begins);
            are = behind (stored_bytes l) ts us s.first rest x.1 s.are;
          }
      step again (Unexpected us) q g =
          let same : us ≡ rest = cc in
          let s = kept_stops last d ts rest (q ∙ ap Unexpected same) in
          record {
            found = s.found ∷ nothing_over due;
            is = (s.is, nothing_is_over last due);
            first = s.first;
            begins = inl s.begins;
            are = s.are;
          }

  -- what is read whole, all of it
  record AllOf (n : ℕ) (due : List Lifeline) (ts rest : List ℕ) (l : List StoredLine) : Type 0 where
    kept : AreKept last due l
    first : List ℕ
    begins : AreFirst BeginsLine stored_bytes n l first
    are : ts ≡ first ++ rest

  open_read : (n : ℕ) (due : List Lifeline) (ts rest : List ℕ) (l : List StoredLine)
      → open_lines last n due ts ≡ Parsed l rest → AllOf n due ts rest l
  unfolding open_lines
  open_read zero [] ts rest l e =
      let is : [] ≡ l = cc in
      let same : ts ≡ rest = cc in
      subst (AllOf zero [] ts rest) is
      (record { kept = tt; first = []; begins = refl; are = same })
  open_read zero (d ∷ due) ts rest l e = absurd (cc)
  open_read (suc n) [] ts rest l e = absurd (cc)
  open_read (suc n) (d ∷ due) ts rest l e =
      step (λ us ls f. open_read n due us rest ls f) (kept_line last d ts) refl e
    where
      second : ((us : List ℕ) (ls : List StoredLine) → open_lines last n due us ≡ Parsed ls rest
          → AllOf n due us rest ls)
          → (x : StoredLine) (us : List ℕ) → BodyRead last d x → ts ≡ stored_bytes x ++ us
          → (o : Out (List StoredLine)) → open_lines last n due us ≡ o
          → and_then o (λ ls. pure (x ∷ ls)) ≡ Parsed l rest → AllOf (suc n) (d ∷ due) ts rest l
      second again x us h f (Parsed ls vs) q g =
          let is : x ∷ ls ≡ l = cc in
          let same : vs ≡ rest = cc in
          let a = again us ls (q ∙ ap (λ r. Parsed ls r) same) in
          subst (AllOf (suc n) (d ∷ due) ts rest) is
          (record {
            kept = (read_kept last d x h, a.kept);
            first = stored_bytes x ++ a.first;
            begins = inr (a.first, refl, a.begins);
            are = behind (stored_bytes x) ts us a.first rest f a.are;
          })
      second again x us h f (Unexpected vs) q g = absurd (cc)

      step : ((us : List ℕ) (ls : List StoredLine) → open_lines last n due us ≡ Parsed ls rest
          → AllOf n due us rest ls)
          → (o : Out StoredLine) → kept_line last d ts ≡ o
          → and_then o (λ x. map_to (λ ls. x ∷ ls) (open_lines last n due)) ≡ Parsed l rest
          → AllOf (suc n) (d ∷ due) ts rest l
      step again (Parsed x us) q g =
          let r = (reads_kept last d).sound ts x us q in
          second again x us r.0.1 r.1 (open_lines last n due us) refl g
      step again (Unexpected us) q g = absurd (cc)

-- ---- images

pub record IsReadDraft (i : Image) : Type 0 where
  pub last : IsLast i.last
  pub versions : AreSoFar i.last 0 None no_tables i.versions
  pub lines : AreKept i.last (lifelines_of i.versions) i.lines

abbrev pub without_lines : Option ℕ → List PlainVersion → Image
without_lines last vs = an_image last vs (nothing_over (lifelines_of vs))

abbrev pub Drafted : List ℕ → List ℕ → Type 0
Drafted ts rest = Stopped IsReadDraft BeginsImage ts rest

module _ (last : Option ℕ) (ts us rest : List ℕ) (is_last : IsLast last)
    (e : ts ≡ last_bytes last ++ us) where
  -- with these lifelines, of which this stands there
  lines_drafted : (vs : List PlainVersion) (vus : List ℕ) → AreSoFar last 0 None no_tables vs
      → us ≡ list_bytes 4 version_bytes vs ++ vus → (ls : List StoredLine) (first : List ℕ)
      → AreKept last (lifelines_of vs) ls → BeginsList 4 BeginsLine stored_bytes ls first
      → vus ≡ first ++ rest → Drafted ts rest
  lines_drafted vs vus h f ls first kept begins g = record {
    found = an_image last vs ls;
    is = record { last = is_last; versions = h; lines = kept };
    first = last_bytes last ++ (list_bytes 4 version_bytes vs ++ first);
    begins = inr (list_bytes 4 version_bytes vs ++ first, refl, inr (first, refl, begins));
    are = behind (last_bytes last) ts us (list_bytes 4 version_bytes vs ++ first) rest e
        (behind (list_bytes 4 version_bytes vs) us vus first rest f g);
  }

  in_count : (vs : List PlainVersion) (vus : List ℕ) → AreSoFar last 0 None no_tables vs
      → us ≡ list_bytes 4 version_bytes vs ++ vus → (o : Out ℕ) → item number_32 vus ≡ o
      → and_then (and_then o (λ n. open_lines last n (lifelines_of vs)))
      (λ ls. nothing_after (an_image last vs ls)) ≡ Unexpected rest → Drafted ts rest
  in_count vs vus h f (Unexpected more) q g =
      let same : more ≡ rest = cc in
      lines_drafted vs vus h f (nothing_over (lifelines_of vs)) []
      (nothing_is_over last (lifelines_of vs)) (inl refl) (item_stops number_32 vus more q ∙ same)
  in_count vs vus h f (Parsed n more) q g =
      let x = counted_32.sound vus n more q in
      let few = x.0 in
      by n more (omega (arith, few)) x.1 (open_lines last n (lifelines_of vs) more) refl g
    where
      by : (n : ℕ) (more : List ℕ) → n < 2 ^ (8 * 4) → vus ≡ number 4 n ++ more
          → (o : Out (List StoredLine)) → open_lines last n (lifelines_of vs) more ≡ o
          → and_then o (λ ls. nothing_after (an_image last vs ls)) ≡ Unexpected rest
          → Drafted ts rest
      by n more few k (Unexpected end) r s =
          let same : end ≡ rest = cc in
          let t = open_stops last n (lifelines_of vs) more rest (r ∙ ap Unexpected same) in
          lines_drafted vs vus h f t.found (number 4 n ++ t.first) t.is
          (inr (n, t.first, few, refl, t.begins))
          (behind (number 4 n) vus more t.first rest k t.are)
      by n more few k (Parsed ls []) r s = absurd (cc)
      by n more few k (Parsed ls (b ∷ end)) r s =
          let same : b ∷ end ≡ rest = cc in
          let t = open_read last n (lifelines_of vs) more rest ls
          (r ∙ ap (λ x. Parsed ls x) same) in
          lines_drafted vs vus h f ls (number 4 n ++ t.first) t.kept
          (inr (n, t.first, few, refl, t.begins))
          (behind (number 4 n) vus more t.first rest k t.are)

  in_versions : (o : Out (List PlainVersion)) → all_versions last us ≡ o
      → and_then o (λ vs. bind (all_open_lines last (lifelines_of vs))
      (λ ls. nothing_after (an_image last vs ls))) ≡ Unexpected rest → Drafted ts rest
  in_versions (Parsed vs vus) q g =
      let x = (reads_all_versions last).sound us vs vus q in
      in_count vs vus x.0.1 x.1 (item number_32 vus) refl g
  in_versions (Unexpected vus) q g =
      let same : vus ≡ rest = cc in
      let s = all_versions_stop last us rest (q ∙ ap Unexpected same) in
      record {
        found = without_lines last s.found;
        is = record {
          last = is_last;
          versions = s.is;
          lines = nothing_is_over last (lifelines_of s.found);
        };
        first = last_bytes last ++ s.first;
        begins = inr (s.first, refl, inl s.begins);
        are = behind (last_bytes last) ts us s.first rest e s.are;
      }

pub image_stops : (ts rest : List ℕ) → open_image ts ≡ Unexpected rest → Drafted ts rest
unfolding last_stamp
image_stops ts rest e = step (last_stamp ts) refl e
  where
    stuck : (us : List ℕ) → last_stamp ts ≡ Unexpected us → ts ≡ us
    stuck us q = item_stops (by_tag (up_to 1) last_arm) ts us q

    step : (o : Out (Option ℕ)) → last_stamp ts ≡ o
        → and_then o (λ last. bind (all_versions last)
        (λ vs. bind (all_open_lines last (lifelines_of vs))
        (λ ls. nothing_after (an_image last vs ls)))) ≡ Unexpected rest → Drafted ts rest
    step (Parsed last us) q g =
        let x = reads_last.sound ts last us q in
        in_versions last ts us rest x.0 x.1 (all_versions last us) refl g
    step (Unexpected us) q g =
        let same : us ≡ rest = cc in
        record {
          found = without_lines None [];
          is = record {
            last = tt;
            versions = refl;
            lines = nothing_is_over None (lifelines_of []);
          };
          first = [];
          begins = inl refl;
          are = stuck us q ∙ same;
        }
