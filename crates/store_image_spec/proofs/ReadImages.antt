-- What the reader of images reads is an image, and each image is read.
use Rattle.std.proofs.Common.{◌≡◌, ℕ, zero, suc, ◌*◌, ◌^◌, ◌≤◌, ◌<◌, true, List, [], ◌∷◌, map}
use Rattle.std.proofs.Common.{length, refl, sym, ap, ◌∙◌, subst, arith, inl, inr}
use Rattle.std.specs.Prelude.{Option, Some, None, ⊤}
use Rattle.std.proofs.lemmas.List.{length-map}
use Rattle.relations_spec.specs.Sets.{In}
use Rattle.relations_spec.specs.Spans.{Span, forever}
use Rattle.prima_base.specs.Columns.{Column, AreColumns}
use Rattle.prima_base.specs.declared.value.ColType.{ColType}
use Rattle.prima_base.specs.Limits.{max_versions}
use Rattle.history_store_spec.specs.Store.{Cell, IsPeriod, IsFilled}
use Rattle.smo_ops_spec.specs.ValidPast.{last_or_nought}
use Rattle.smo_ops_spec.specs.Past.{no_tables}
use Rattle.smo_ops_versions_spec.specs.Lifelines.{Lifeline, lifelines_of}
use Rattle.store_image_spec.specs.Images.{StoredLine, Image, EndsUpTo, IsStoredLine, IsImage}
use Rattle.store_image_spec.specs.ItemChecks.{is_period}
use Rattle.store_image_spec.specs.Encoding.{last_number}
use Rattle.store_image_spec.proofs.Formats.{Each}
use Rattle.store_image_spec.proofs.ReadParts.{IsLast, IsKey, Fits, CellFits, KeysRead, ColumnRead}
use Rattle.store_image_spec.proofs.ReadParts.{ColumnsRead, LineRead, LinesRead, AllRead}
use Rattle.store_image_spec.proofs.ReadParts.{AllLinesRead}
use Rattle.store_image_spec.proofs.ReadParts.{ImageRead}
use Rattle.store_image_spec.proofs.Checking.{period_lasts, period_up_to, is_period_so}
use Rattle.store_image_spec.proofs.Filling.{from_first, to_first, IsWell, run_well, run_fills}
use Rattle.store_image_spec.proofs.DueEntries.{Last, fills_run}
use Rattle.store_image_spec.proofs.FittingRows.{Typed, AllFilled, rows_fit, entries_typed}
use Rattle.store_image_spec.proofs.Apartness.{apart_at_starts, apart_always}
use Rattle.store_image_spec.proofs.DueLifelines.{IsLifeline, EndsBy, due_lifelines}
use Rattle.store_image_spec.proofs.ValidVersions.{read_valid, valid_read, none_is_valid}

-- ---- lists

pub each_in : {A : Type 0} (Is : A → Type 0) (n : ℕ) (l : List A) → Each Is n l → (a : A) → In a l
    → Is a
each_in Is zero [] h a i = absurd i
each_in Is zero (b ∷ l) h a i = absurd (let e : b ∷ l ≡ [] = h in cc)
each_in Is (suc n) [] h a i = absurd i
each_in Is (suc n) (b ∷ l) h a (inl e) = subst Is e h.0
each_in Is (suc n) (b ∷ l) h a (inr i) = each_in Is n l h.1 a i

in_each : {A : Type 0} (Is : A → Type 0) (l : List A) → ((a : A) → In a l → Is a)
    → Each Is (length l) l
in_each Is [] f = refl
in_each Is (a ∷ l) f = (f a (inl refl), in_each Is l (λ b i. f b (inr i)))

pub all_last : (keys : List Span) → ((p : Span) → In p keys → IsPeriod p) → Last keys
all_last [] f = tt
all_last (k ∷ keys) f = ((f k (inl refl)).0, all_last keys (λ p i. f p (inr i)))

-- ---- keys and columns that are read

module _ (last : Option ℕ) (keys : List Span) where
  key_lasts : KeysRead last keys → (p : Span) → In p keys → IsPeriod p
  key_lasts h p i = let k = each_in (IsKey last) (length keys) keys h.1 p i in
      (period_lasts last p k.1, k.0.1)

  key_up_to : KeysRead last keys → (p : Span) → In p keys → EndsUpTo last p
  key_up_to h p i = period_up_to last p (each_in (IsKey last) (length keys) keys h.1 p i).1

  pub keys_read : length keys < 2 ^ 64 → ((p : Span) → In p keys → IsPeriod p)
      → ((p : Span) → In p keys → EndsUpTo last p) → KeysRead last keys
  keys_read few f u = (
    omega (arith, few),
    in_each (IsKey last) keys
        (λ p i. (fits p (f p i), is_period_so last p (f p i) (u p i))),
  )
    where
      fits : (p : Span) → IsPeriod p → Fits p
      fits p h = let a = h.0 in let b = h.1 in (omega (arith, a, b), b)

  -- what is so of a column that was read
  record IsColumn (type : ColType) (cells : List Cell) : Type 0 where
    filled : IsFilled keys cells
    well : (c : Cell) → In c cells → IsWell last type c
    few : length cells < 2 ^ 64

  column_is : (type : ColType) (cells : List Cell) → ColumnRead last keys type cells
      → IsColumn type cells
  column_is type cells h = record {
    filled = from_first keys cells (run_fills last type 0 keys cells h.1);
    well = run_well last type 0 keys cells h.1;
    few = (let a = h.0 in omega (arith, a));
  }

  -- column by column
  abbrev AreIn : List Column → List (List Cell) → Type 0
  AreIn [] [] = ⊤
  AreIn [] (cells ∷ more) = ⊥
  AreIn (c ∷ columns) [] = ⊥
  AreIn (c ∷ columns) (cells ∷ more) = IsColumn c.1 cells × AreIn columns more

  columns_are : (columns : List Column) (cells : List (List Cell))
      → ColumnsRead last keys columns cells → AreIn columns cells
  columns_are [] [] h = tt
  columns_are [] (cells ∷ more) h = absurd (let e : cells ∷ more ≡ [] = h in cc)
  columns_are (c ∷ columns) [] h = absurd h
  columns_are (c ∷ columns) (cells ∷ more) h =
      (column_is c.1 cells h.0, columns_are columns more h.1)

  as_wide : (columns : List Column) (cells : List (List Cell)) → AreIn columns cells
      → length cells ≡ length columns
  as_wide [] [] h = refl
  as_wide [] (cells ∷ more) h = absurd h
  as_wide (c ∷ columns) [] h = absurd h
  as_wide (c ∷ columns) (cells ∷ more) h = ap suc (as_wide columns more h.1)

  are_typed : (columns : List Column) (cells : List (List Cell)) → AreIn columns cells
      → Typed columns cells
  are_typed [] [] h = tt
  are_typed [] (cells ∷ more) h = absurd h
  are_typed (c ∷ columns) [] h = absurd h
  are_typed (c ∷ columns) (cells ∷ more) h = (
    (λ d i. (h.0.well d i).typed),
    are_typed columns more h.1,
  )

  -- each column of the list is that of some type
  column_in : (columns : List Column) (cells : List (List Cell)) → AreIn columns cells
      → (x : List Cell) → In x cells → (type : ColType) × IsColumn type x
  column_in [] [] h x i = absurd i
  column_in [] (cells ∷ more) h x i = absurd h
  column_in (c ∷ columns) [] h x i = absurd i
  column_in (c ∷ columns) (cells ∷ more) h x (inl e) = (c.1, subst (IsColumn c.1) e h.0)
  column_in (c ∷ columns) (cells ∷ more) h x (inr i) = column_in columns more h.1 x i

  pub columns_read : (columns : List Column) (cells : List (List Cell)) → Last keys
      → Typed columns cells → AllFilled keys cells
      → ((x : List Cell) → In x cells → (c : Cell) → In c x → CellFits c
      × (is_period last c.period ≡ true)) → ((x : List Cell) → In x cells → length x < 2 ^ 64)
      → ColumnsRead last keys columns cells
  columns_read [] [] l t f w n = refl
  columns_read [] (cells ∷ more) l t f w n = absurd t
  columns_read (c ∷ columns) [] l t f w n = absurd t
  columns_read (c ∷ columns) (cells ∷ more) l t f w n = (
    (
      (let k = n cells (inl refl) in omega (arith, k)),
      fills_run last c.1 0 keys cells (to_first keys cells (f cells (inl refl))) l
          (λ d i. (let u = w cells (inl refl) d i in
          record { fits = u.0; typed = t.0 d i; period = u.1 })),
    ),
    columns_read columns more l t.1 (λ x i. f x (inr i)) (λ x i. w x (inr i)) (λ x i. n x (inr i)),
  )

-- ---- lifelines

-- what is read is kept of a table
line_is : (last : Option ℕ) (n : ℕ) (due : Lifeline) (l : StoredLine) → IsLifeline n due
    → LineRead last due l → IsStoredLine last l
line_is last n due l d ((fits, (is_due, keys_are, cells_are)), apart_are) = record {
  store = record {
    columns = subst AreColumns same d.columns;
    width = as_wide last l.keys l.line.columns l.cells are;
    lasting = key_lasts last l.keys keys_are;
    filled = filled;
    fitting = λ m id holds. rows_fit l.keys l.line.columns l.cells
        (are_typed last l.keys l.line.columns l.cells are) filled m id holds;
    apart = λ m i j hi hj e. apart_always l.keys l.cells filled some apart_are m i j hi hj e;
  };
  values = λ cells i c j. (let r = each cells i in (r.1.well c j).fits.0.1);
  keys = key_up_to last l.keys keys_are;
  entries = λ cells i c j. (let r = each cells i in
      period_up_to last c.period ((r.1.well c j).period));
  few_keys = (let a = keys_are.0 in omega (arith, a));
  few_cells = λ cells i. (let r = each cells i in r.1.few);
}
  where
    same : due.columns ≡ l.line.columns
    same = ap (λ (x : Lifeline). x.columns) (sym is_due)

    are : AreIn last l.keys l.line.columns l.cells
    are = subst (λ cs. AreIn last l.keys cs l.cells) same
        (columns_are last l.keys due.columns l.cells cells_are)

    each : (cells : List Cell) → In cells l.cells → (type : ColType)
        × IsColumn last l.keys type cells
    each cells i = column_in last l.keys l.line.columns l.cells are cells i

    filled : AllFilled l.keys l.cells
    filled cells i = (each cells i).1.filled

    some : 1 ≤ length l.cells
    some = let a = d.some in let w = as_wide last l.keys l.line.columns l.cells are in let s =
        ap length same in omega (arith, a, w, s)

-- what is kept is read
line_read : (last : Option ℕ) (n : ℕ) (l : StoredLine) → n ≤ max_versions → IsLifeline n l.line
    → IsStoredLine last l → LineRead last l.line l
line_read last n l few d h = (
  (
    (((let f = d.first in omega (arith, f, few)), ends l.line.last d.last), d.named),
    (
      refl,
      keys_read last l.keys h.few_keys h.store.lasting h.keys,
      columns_read last l.keys l.line.columns l.cells (all_last l.keys h.store.lasting) typed
          filled well h.few_cells,
    ),
  ),
  apart_at_starts l.keys l.cells h.store.apart,
)
  where
    ends : (o : Option ℕ) → EndsBy n o → last_number o ≤ 4294967295
    ends None e = omega arith
    ends (Some k) e = omega (arith, e, few)

    filled : AllFilled l.keys l.cells
    filled = h.store.filled

    typed : Typed l.line.columns l.cells
    typed = entries_typed l.keys l.line.columns l.cells h.store.width filled h.store.fitting

    well : (x : List Cell) → In x l.cells → (c : Cell) → In c x → CellFits c
        × (is_period last c.period ≡ true)
    well x i c j =
        let known = (h.store.filled x i).known c j in
        let lasts = (h.store.filled x i).lasting c j in
        let start = lasts.0 in
        let end = lasts.1 in
        let few = h.few_keys in (
          (
            (omega (arith, known, few), h.values x i c j),
            (omega (arith, start, end), end),
          ),
          is_period_so last c.period lasts (h.entries x i c j),
        )

-- the line is the one that is due
line_due : (last : Option ℕ) (due : Lifeline) (l : StoredLine) → LineRead last due l
    → l.line ≡ due
line_due last due l ((fits, (is_due, keys_are, cells_are)), apart_are) = is_due

-- line by line
lines_are : (last : Option ℕ) (k n : ℕ) (due : List Lifeline) (l : List StoredLine)
    → ((d : Lifeline) → In d due → IsLifeline n d) → LinesRead last k due l
    → (map (λ (x : StoredLine). x.line) l ≡ due) × ((x : StoredLine) → In x l → IsStoredLine last x)
lines_are last zero n [] [] f h = (refl, λ x i. absurd i)
lines_are last zero n [] (x ∷ l) f h = absurd (let e : x ∷ l ≡ [] = h in cc)
lines_are last zero n (d ∷ due) l f h = absurd h
lines_are last (suc k) n [] l f h = absurd h
lines_are last (suc k) n (d ∷ due) [] f h = absurd h
lines_are last (suc k) n (d ∷ due) (x ∷ l) f h =
    let r = lines_are last k n due l (λ e i. f e (inr i)) h.1 in (
      ap (λ e. e ∷ map (λ (y : StoredLine). y.line) l) (line_due last d x h.0)
          ∙ ap (λ es. d ∷ es) r.0,
      each (line_is last n d x (f d (inl refl)) h.0) r.1,
    )
  where
    each : IsStoredLine last x → ((y : StoredLine) → In y l → IsStoredLine last y)
        → (y : StoredLine) → In y (x ∷ l) → IsStoredLine last y
    each g r y (inl e) = subst (IsStoredLine last) e g
    each g r y (inr i) = r y i

lines_read : (last : Option ℕ) (n : ℕ) (l : List StoredLine) → n ≤ max_versions
    → ((d : Lifeline) → In d (map (λ (x : StoredLine). x.line) l) → IsLifeline n d)
    → ((x : StoredLine) → In x l → IsStoredLine last x)
    → LinesRead last (length l) (map (λ (x : StoredLine). x.line) l) l
lines_read last n [] few f h = refl
lines_read last n (x ∷ l) few f h = (
  line_read last n x few (f x.line (inl refl)) (h x (inl refl)),
  lines_read last n l few (λ d i. f d (inr i)) (λ y i. h y (inr i)),
)

-- ---- images

pub last_below : (last : Option ℕ) → IsLast last → last_or_nought last < forever
last_below None h = omega arith
last_below (Some k) h = omega (arith, h)

pub below_last : (last : Option ℕ) → last_or_nought last < forever → IsLast last
below_last None h = tt
below_last (Some k) h = omega (arith, h)

pub read_is_image : (i : Image) → ImageRead i → IsImage i
read_is_image i h =
    let v = read_valid i.last (length i.versions) 0 None no_tables i.versions h.versions.1 in
    let due = due_lifelines i.versions v.evolved v.named in
    let lines = lines_are i.last (length i.lines) (length i.versions) (lifelines_of i.versions)
    i.lines due.0 h.lines.1 in
    record {
      evolved = v.evolved;
      few = (let f = v.few (omega arith) in omega (arith, f));
      named = v.named;
      members = v.members;
      ends = last_below i.last h.last;
      begun = v.begun;
      without = v.without;
      lines = lines.0;
      each = lines.1;
    }

pub image_is_read : (i : Image) → IsImage i → ImageRead i
image_is_read i h = record { last = below_last i.last h.ends; versions = versions; lines = lines }
  where
    few : length i.versions ≤ max_versions
    few = h.few

    versions : AllRead i.last i.versions
    versions = (
      omega (arith, few),
      valid_read i.last h.ends 0 None no_tables i.versions
          none_is_valid h.evolved h.begun h.without (let f = few in omega (arith, f)) h.named
          h.members,
    )

    due : ((d : Lifeline) → In d (lifelines_of i.versions) → IsLifeline (length i.versions) d)
        × (length (lifelines_of i.versions) ≤ 64 * length i.versions)
    due = due_lifelines i.versions h.evolved h.named

    counted : length i.lines ≡ length (lifelines_of i.versions)
    counted = sym (length-map i.lines (λ (x : StoredLine). x.line)) ∙ ap length h.lines

    lines : AllLinesRead i.last (lifelines_of i.versions) i.lines
    lines = (
      (let a = due.1 in let b = counted in let f = few in omega (arith, a, b, f)),
      subst (λ ds. LinesRead i.last (length i.lines) ds i.lines) h.lines
          (lines_read i.last (length i.versions) i.lines few
          (λ d j. due.0 d (subst (In d) h.lines j)) h.each),
    )
