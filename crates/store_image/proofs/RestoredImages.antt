-- Groups whose image is valid represent the past that it shows.
use Rattle.std.proofs.Common.{◌≡◌, ◌⊎◌, ◌≤◌, ◌<◌, ℕ, zero, suc, List, [], ◌∷◌, length, map, get_or}
use Rattle.std.proofs.Common.{refl, sym, subst, ap, ◌∙◌, inl, inr, arith}
use Rattle.std.specs.Prelude.{All, Option, Some, None, slice_get, option_map}
use Rattle.std.specs.FinMap.{get}
use Rattle.std.proofs.lemmas.Bool.{cases_lt}
use Rattle.std.proofs.lemmas.List.{length-map}
use Rattle.std.proofs.lemmas.List.Elements.{All-head, All-tail}
use Rattle.std.proofs.lemmas.Option.{slice_get-map}
use Rattle.relations_spec.specs.Sets.{In}
use Rattle.relations_spec.specs.Spans.{Span, forever}
use Rattle.relations_spec.proofs.SetLaws.{in_map}
use Rattle.history_store_spec.specs.Store.{Cell, Store, IsPeriod, IsBefore, AllBefore, relation_at}
use Rattle.smo_ops_types.specs.Commands.{PlainVersion, version_of}
use Rattle.smo_ops_spec.specs.Effects.{rows_under}
use Rattle.smo_ops_spec.specs.InForce.{stamp_of}
use Rattle.smo_ops_spec.specs.ValidPast.{IsLater, IsPast}
use Rattle.smo_ops_spec.specs.Past.{Past, version_at, database_at}
use Rattle.smo_ops_spec.specs.Sizes.{Size, none_written}
use Rattle.smo_ops_versions_spec.specs.Lifelines.{Lifeline, Covers, lifelines_of, lifeline_columns}
use Rattle.store_image_spec.specs.Images.{StoredLine, Image, IsImage, IsStoredLine, IsUpTo}
use Rattle.store_image_spec.specs.Images.{EndsUpTo}
use Rattle.store_image_spec.specs.Images.{lines_in, store_of}
use Rattle.store_image_spec.specs.ShownPast.{cells_written, line_size, image_past}
use Rattle.store_image_spec.proofs.ShownPasts.{is_past, past_holds, table_shown}
use Rattle.store_image_spec.proofs.DueLifelines.{due_lifelines}
use Rattle.store_image_reader.specs.Seen.{stored_seen, cells_seen, lines_seen}
use Rattle.store_image_reader.specs.Ordered.{IsOrdered}
use Rattle.store_image_reader.specs.declared.line.ReadLine.{ReadLine}
use Rattle.version_groups.specs.StoredTables.{MadeTable, stores_of}
use Rattle.version_groups.specs.Covering.{line_of, AreOfLifelines}
use Rattle.version_groups.specs.Groups.{Kept, versions_in, places_of, table_in}
use Rattle.version_groups.specs.Restoring.{IsPastOf, store_columns}
use Rattle.version_groups.specs.Representation.{IsInForce, AreUpTo}
use Rattle.version_groups.specs.Sizes.{IsWritten, AreWritten, HasSize, HaveSizes}
use Rattle.version_groups.proofs.OwnMoments.{own_version, own_within}
use Rattle.store_image.specs.ImageIn.{kept_line, image_in, bare, CanAllBeMade}
use Rattle.store_image.proofs.KeptTables.{got_in, same_relations, covering, found_at}

-- ---- the lines of an image

-- each has a column
pub some_cells : (image : Image) → IsImage image → (l : StoredLine) → In l image.lines
    → 1 ≤ length l.cells
some_cells image is l i =
    let due = (due_lifelines image.versions is.evolved is.named).0 l.line
    (subst (In l.line) is.lines (in_map (λ (x : StoredLine). x.line) l image.lines i)) in
    let some = due.some in
    let wide = (is.each l i).store.width in
    omega (arith, some, wide)

at_place : {X : Type 0} (xs : List X) (k : ℕ) (d : X) → k < length xs → In (get_or xs k d) xs
at_place [] k d h = absurd (omega (arith, h))
at_place (x ∷ xs) zero d h = inl refl
at_place (x ∷ xs) (suc k) d h = inr (at_place xs k d (omega (arith, h)))

-- over each a table can be made again
pub all_made : (last : Option ℕ) (due : List Lifeline) (lines : List ReadLine)
    → ((l : StoredLine) → In l (lines_seen due lines) → IsStoredLine last l)
    → ((l : StoredLine) → In l (lines_seen due lines) → 1 ≤ length l.cells)
    → All IsOrdered lines → CanAllBeMade due lines
all_made last [] lines each some order = tt
all_made last (d ∷ due) [] each some order = tt
all_made last (d ∷ due) (l ∷ lines) each some order =
    let one = each (stored_seen d l) (inl refl) in
    let cells = cells_seen l.cells.items in (
      record {
        table = one.store;
        values = λ k e h i c g. one.values (get_or cells k e) (at_place cells k e h)
            (get_or (get_or cells k e) i c) (at_place (get_or cells k e) i c g);
        order = All-head IsOrdered l lines order (some (stored_seen d l) (inl refl));
      },
      all_made last due lines (λ x i. each x (inr i)) (λ x i. some x (inr i))
          (All-tail IsOrdered l lines order),
    )

-- there is one for each lifeline
pub enough_lines : (due : List Lifeline) (lines : List ReadLine)
    → map (λ (l : StoredLine). l.line) (lines_seen due lines) ≡ due → length due ≤ length lines
enough_lines [] lines e = omega arith
enough_lines (d ∷ due) [] e = absurd (let q = e in cc)
enough_lines (d ∷ due) (l ∷ lines) e = let h = enough_lines due lines (let q = e in cc) in
    omega (arith, h)

-- ---- the tables of an image

pub same_columns : (tables : List Store) (lines : List StoredLine)
    → map bare tables ≡ map store_of lines → store_columns tables
    ≡ lifeline_columns (map (λ (l : StoredLine). l.line) lines)
same_columns [] [] e = refl
same_columns [] (l ∷ lines) e = absurd (let q = e in cc)
same_columns (t ∷ tables) [] e = absurd (let q = e in cc)
same_columns (t ∷ tables) (l ∷ lines) e =
    let first : bare t ≡ store_of l = (let q = e in cc) in
    let others : map bare tables ≡ map store_of lines = (let q = e in cc) in
    ap (λ (s : Store). s.columns ∷ store_columns tables) first
    ∙ ap (λ cs. l.line.columns ∷ cs) (same_columns tables lines others)

same_line : (t : MadeTable) (l : StoredLine) → line_of t ≡ l.line → bare t.store ≡ store_of l
    → kept_line t ≡ l
same_line t l e f = λ i. record { line = e i; keys = (f i).keys; cells = (f i).cells }

pub kept_lines : (tables : List MadeTable) (lines : List StoredLine)
    → map line_of tables ≡ map (λ (l : StoredLine). l.line) lines
    → map bare (stores_of tables) ≡ map store_of lines → map kept_line tables ≡ lines
kept_lines [] [] e f = refl
kept_lines [] (l ∷ lines) e f = absurd (let q = e in cc)
kept_lines (t ∷ tables) [] e f = absurd (let q = e in cc)
kept_lines (t ∷ tables) (l ∷ lines) e f =
    let first : line_of t ≡ l.line = (let q = e in cc) in
    let others : map line_of tables ≡ map (λ (x : StoredLine). x.line) lines = (let q = e in cc) in
    let store : bare t.store ≡ store_of l = (let q = f in cc) in
    let stores : map bare (stores_of tables) ≡ map store_of lines = (let q = f in cc) in
    ap (λ x. x ∷ map kept_line tables) (same_line t l first store)
    ∙ ap (λ xs. l ∷ xs) (kept_lines tables lines others stores)

-- the image of groups of its versions and its tables
pub same_image : (kept : Kept) (image : Image) → versions_in kept ≡ image.versions
    → AreOfLifelines kept → lines_in image ≡ lifelines_of image.versions
    → map bare (stores_of kept.stored) ≡ map store_of image.lines → image_in kept image.last ≡ image
same_image kept image versions are lines stores =
    let kept_lines_are = kept_lines kept.stored image.lines
    (are.lines ∙ ap lifelines_of versions ∙ sym lines) stores in
    λ i. record { last = image.last; versions = versions i; lines = kept_lines_are i }

-- ---- sizes

each_written : (cells : List (List Cell)) (k : ℕ) → k < length cells
    → IsWritten (get_or (map cells_written cells) k none_written) (get_or cells k [])
each_written [] k h = absurd (omega (arith, h))
each_written (c ∷ cells) zero h = record { count = refl; bytes = refl }
each_written (c ∷ cells) (suc k) h = each_written cells k (omega (arith, h))

are_written : (cells : List (List Cell)) → AreWritten (map cells_written cells) cells
are_written cells = record {
  count = sym (length-map cells cells_written);
  each = λ k h. each_written cells k (let n = length-map cells cells_written in
      omega (arith, n, h));
}

has_size : (tables : List MadeTable) (k : ℕ) (s : Size) (t : MadeTable) → k < length tables
    → HasSize (get_or (map line_size (map kept_line tables)) k s) (get_or tables k t)
has_size [] k s t h = absurd (omega (arith, h))
has_size (u ∷ tables) zero s t h = record {
  name = refl;
  first = refl;
  last = refl;
  keys = refl;
  columns = are_written u.store.cells;
}
has_size (u ∷ tables) (suc k) s t h = has_size tables k s t (omega (arith, h))

have_sizes : (tables : List MadeTable) → HaveSizes (map line_size (map kept_line tables)) tables
have_sizes tables =
    let n = length-map (map kept_line tables) line_size in
    let m = length-map tables kept_line in
    record {
      count = omega (arith, n, m);
      each = λ k s t h.
          has_size tables k s t (omega (arith, n, m, h));
    }

-- ---- stamps

before_from : (last : Option ℕ) (p : Span) (m : ℕ) → IsPeriod p → EndsUpTo last p → IsLater last m
    → IsBefore m p
before_from last p m period (inl e, end) later =
    absurd (let a = period.0 in let b = period.1 in omega (arith, a, b, e))
before_from None p m period (inr (k, e, l), end) later = absurd (let q = e in cc)
before_from (Some n) p m period (inr (k, e, l), end) later =
    let same : n ≡ k = (let q = e in cc) in
    ((omega (arith, l, same, later)), ends end)
  where
    ends : IsUpTo (Some n) p.end → (p.end < m) ⊎ (p.end ≡ forever)
    ends (inl f) = inr f
    ends (inr (j, f, h)) = let q : n ≡ j = (let r = f in cc) in inl (omega (arith, h, q, later))

-- ---- versions

got_none : {A : Type 0} (xs : List A) (k : ℕ) → length xs ≤ k → slice_get xs k ≡ None
got_none [] k h = refl
got_none (x ∷ xs) zero h = absurd (omega (arith, h))
got_none (x ∷ xs) (suc k) h = got_none xs k (omega (arith, h))

few_in_force : (versions : List PlainVersion) (k m : ℕ) → IsInForce versions k m
    → k ≤ length versions
few_in_force versions zero m h = omega arith
few_in_force versions (suc k) m h = elim (cases_lt k (length versions)) [
  | inl l ↦ omega (arith, l)
  | inr g ↦
      let a = ap stamp_of (got_none versions k g) in
      let b = ap stamp_of (got_none versions (suc k) (omega (arith, g))) in
      let low = h.0 in
      let up = h.1 in
      absurd (omega (arith, a, b, low, up))
]

module _ (kept : Kept) (last : Option ℕ) (n : ℕ) (is : IsImage (image_in kept last))
    (lines : AreOfLifelines kept) where
  abbrev past : Past
  past = image_past n (image_in kept last)

  valid : IsPast past
  valid = is_past n (image_in kept last) is

  databases : (k : ℕ) → (name : List ℕ) → (store : Store) → (m : ℕ)
      → table_in kept k name ≡ Some store → IsInForce past.versions k m
      → relation_at store m ≡ rows_under (get (database_at past m) name)
  databases k name store m e h =
      let few = few_in_force past.versions k m h in
      let lasts = own_within past valid k m is.ends h in
      let at : version_at past m ≡ k = own_version past valid k m few h in
      let count = length-map kept.versions version_of in
      let found = found_at kept.stored (places_of kept k) name store e in
      let t = found.table in
      let line : slice_get (map line_of kept.stored) found.place ≡ Some (line_of t) =
      slice_get-map line_of kept.stored found.place ∙ ap (option_map line_of) found.at in
      let covered : Covers t.first t.last k =
      covering k (line_of t) (lines.places.covered k found.place (line_of t)
      (omega (arith, few, count)) line found.among) in
      let own : rows_under (get (database_at past m) t.name)
      ≡ relation_at (store_of (kept_line t)) m =
      table_shown n (image_in kept last) is m lasts (kept_line t)
      (in_map kept_line t kept.stored (got_in kept.stored found.place t found.at))
      (subst (Covers t.first t.last) (sym at) covered) in
      sym (ap (λ s. relation_at s m) found.is) ∙ sym (same_relations t m) ∙ sym own
      ∙ ap (λ x. rows_under (get (database_at past m) x)) found.named

  table_before : (t : MadeTable) → In t kept.stored → (m : ℕ) → IsLater last m → AllBefore t.store m
  table_before t i m later =
      let its = is.each (kept_line t) (in_map kept_line t kept.stored i) in
      record {
        keys = λ p j. before_from last p m (its.store.lasting p j) (its.keys p j) later;
        cells = λ cells j c k. before_from last c.period m ((its.store.filled cells j).lasting c k)
            (its.entries cells j c k) later;
      }

  up_to : AreUpTo last kept.stored
  up_to p t m h later = table_before (get_or kept.stored p t) (in_place kept.stored p t h) m later
    where
      in_place : (tables : List MadeTable) (p : ℕ) (t : MadeTable) → p < length tables
          → In (get_or tables p t) tables
      in_place [] p t h = absurd (omega (arith, h))
      in_place (u ∷ tables) zero t h = inl refl
      in_place (u ∷ tables) (suc p) t h = inr (in_place tables p t (omega (arith, h)))

  pub past_of : IsPastOf kept (image_past n (image_in kept last))
  past_of = record {
    valid = valid;
    values = past_holds n (image_in kept last) is;
    ends = is.ends;
    versions = refl;
    databases = databases;
    stamps = up_to;
    sizes = have_sizes kept.stored;
  }
