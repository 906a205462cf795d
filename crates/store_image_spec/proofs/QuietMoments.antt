-- From one moment to a later one, where no stamp of an image lies between, nothing changes.
use Rattle.std.proofs.Common.{◌≡◌, ◌≤◌, ◌<◌, ℕ, Bool, true, false, cond, List, [], ◌∷◌, ◌++◌}
use Rattle.std.proofs.Common.{length, map, refl, sym, ap, subst, ◌∙◌, inl, inr, arith, nat_le}
use Rattle.std.proofs.Common.{nat_lt, ◌==◌, ◌&&◌}
use Rattle.std.specs.Prelude.{Option, ◌⊎◌, if◌then◌else◌}
use Rattle.std.specs.List.{filter, flat_map}
use Rattle.std.specs.FinMap.{from_entries, nat_cmp-IsAntisymmetric}
use Rattle.std.specs.Ordering.{nat_cmp}
use Rattle.std.proofs.lemmas.Cmp.{nat_cmp_total}
use Rattle.std.proofs.lemmas.Bool.Decides.{nat_tests}
use Rattle.relations_spec.specs.Sets.{In, IsExact}
use Rattle.relations_spec.specs.Spans.{Span, forever, covers}
use Rattle.relations_spec.proofs.SetLaws.{in_left, in_right, in_append, in_map, from_map, in_filter}
use Rattle.relations_spec.proofs.SetLaws.{from_filter, in_flat_map, from_flat_map, in_set, from_set}
use Rattle.prima_base.specs.OrderLaws.{exact_from}
use Rattle.prima_base.specs.declared.value.Value.{Value}
use Rattle.schema_catalog.specs.Databases.{DatabaseEntry, Rows}
use Rattle.history_store_spec.specs.Store.{Cell, IsPeriod, relation_at}
use Rattle.smo_ops_types.specs.Commands.{PlainVersion}
use Rattle.smo_ops_spec.specs.ValidPast.{last_or_nought, AllInForce}
use Rattle.smo_ops_spec.specs.Past.{begun_at}
use Rattle.store_image_spec.specs.Images.{StoredLine, Image, IsImage, IsStoredLine, IsUpTo}
use Rattle.store_image_spec.specs.Images.{EndsUpTo}
use Rattle.store_image_spec.specs.Images.{store_of}
use Rattle.store_image_spec.specs.ShownPast.{is_of_version, table_at, image_database, stamps_of}
use Rattle.store_image_spec.specs.ShownPast.{line_stamps, image_stamps}
use Rattle.store_image_spec.proofs.ShownRelations.{relation_alike}

pub nat_exact : IsExact nat_cmp
nat_exact = exact_from nat_cmp_total nat_cmp-IsAntisymmetric

-- it does not lie after s, up to m
abbrev pub Quiet : ℕ → ℕ → ℕ → Type 0
Quiet s m x = (x ≤ s) ⊎ (m < x)

-- ---- the stamps of an image

abbrev version_stamps : Image → List ℕ
version_stamps image = map (λ (v : PlainVersion). v.stamp) image.versions

abbrev all_stamps : Image → List ℕ
all_stamps image = version_stamps image ++ flat_map line_stamps image.lines

is_stamp : (image : Image) (x : ℕ) → In x (all_stamps image) → 0 < x → In x (image_stamps image)
is_stamp image x i l = in_set nat_cmp nat_exact x (filter (λ m. nat_lt 0 m) (all_stamps image))
    (in_filter (λ m. nat_lt 0 m) x (all_stamps image) i (grind (arith, nat_tests, l)))

pub from_stamps : (image : Image) (x : ℕ) → In x (image_stamps image) → In x (all_stamps image)
    × (0 < x)
from_stamps image x i =
    let h = from_filter (λ m. nat_lt 0 m) x (all_stamps image)
    (from_set nat_cmp nat_exact x (filter (λ m. nat_lt 0 m) (all_stamps image)) i) in
    let later = h.1 in
    (h.0, grind (arith, nat_tests, later))

pub version_stamp : (image : Image) (v : PlainVersion) → In v image.versions → 0 < v.stamp
    → In v.stamp (image_stamps image)
version_stamp image v i l = is_stamp image v.stamp
    (in_left v.stamp (version_stamps image) (flat_map line_stamps image.lines)
    (in_map (λ (w : PlainVersion). w.stamp) v image.versions i)) l

line_stamp : (image : Image) (l : StoredLine) → In l image.lines → (x : ℕ) → In x (line_stamps l)
    → In x (all_stamps image)
line_stamp image l i x j = in_right x (version_stamps image) (flat_map line_stamps image.lines)
    (in_flat_map line_stamps l x image.lines i j)

abbrev cell_stamps : List Cell → List ℕ
cell_stamps cells = flat_map (λ (c : Cell). stamps_of c.period) cells

key_stamp : (l : StoredLine) (p : Span) → In p l.keys → (x : ℕ) → In x (stamps_of p)
    → In x (line_stamps l)
key_stamp l p i x j = in_left x (flat_map stamps_of l.keys) (flat_map cell_stamps l.cells)
    (in_flat_map stamps_of p x l.keys i j)

entry_stamp : (l : StoredLine) (cells : List Cell) → In cells l.cells → (c : Cell) → In c cells
    → (x : ℕ) → In x (stamps_of c.period) → In x (line_stamps l)
entry_stamp l cells i c j x n =
    in_right x (flat_map stamps_of l.keys) (flat_map cell_stamps l.cells)
    (in_flat_map cell_stamps cells x l.cells i
    (in_flat_map (λ (d : Cell). stamps_of d.period) c x cells j n))

-- the end of a period is a stamp, or that of what still holds
end_stamp : (p : Span) → (p.end ≡ forever) ⊎ In p.end (stamps_of p)
end_stamp p = step (p.end == forever) refl
  where
    step : (b : Bool) → (p.end == forever) ≡ b → (p.end ≡ forever)
        ⊎ In p.end (p.start ∷ (if b then [] else p.end ∷ []))
    step true e = inl (grind (arith, nat_tests, e))
    step false e = inr (inr (inl refl))

-- ---- between them

module _ (s m : ℕ) (later : s ≤ m) where
  same_start : (x : ℕ) → Quiet s m x → nat_le x m ≡ nat_le x s
  same_start x (inl l) = grind (arith, nat_tests, l, later)
  same_start x (inr l) = grind (arith, nat_tests, l, later)

  same_end : (x : ℕ) → Quiet s m x → nat_lt m x ≡ nat_lt s x
  same_end x (inl l) = grind (arith, nat_tests, l, later)
  same_end x (inr l) = grind (arith, nat_tests, l, later)

  pub same_begun : (versions : List PlainVersion)
      → ((v : PlainVersion) → In v versions → Quiet s m v.stamp)
      → begun_at m versions ≡ begun_at s versions
  same_begun [] f = refl
  same_begun (v ∷ versions) f =
      ap (λ b. cond b (v ∷ begun_at m versions) (begun_at m versions))
      (same_start v.stamp (f v (inl refl)))
      ∙ ap (λ (vs : List PlainVersion). cond (nat_le v.stamp s) (v ∷ vs) vs)
      (same_begun versions (λ w i. f w (inr i)))

module _ (image : Image) (s m : ℕ) (later : s ≤ m) (lasts : m < forever) (quiet : (x : ℕ)
    → In x (image_stamps image) → Quiet s m x) where
  quiet_stamp : (x : ℕ) → In x (all_stamps image) → Quiet s m x
  quiet_stamp x i = step (nat_lt 0 x) refl
    where
      step : (b : Bool) → nat_lt 0 x ≡ b → Quiet s m x
      step true e = quiet x (is_stamp image x i (grind (arith, nat_tests, e)))
      step false e = inl (grind (arith, nat_tests, e))

  quiet_end : (p : Span) → ((x : ℕ) → In x (stamps_of p) → In x (all_stamps image))
      → Quiet s m p.end
  quiet_end p f = elim (end_stamp p) [
    | inl e ↦ inr (omega (arith, e, lasts))
    | inr i ↦ quiet_stamp p.end (f p.end i)
  ]

  -- a period has both moments or neither
  both_or_neither : (p : Span) → ((x : ℕ) → In x (stamps_of p) → In x (all_stamps image))
      → covers p m ≡ covers p s
  both_or_neither p f =
      ap (λ b. b && nat_lt m p.end) (same_start s m later p.start
      (quiet_stamp p.start (f p.start (inl refl))))
      ∙ ap (λ b. nat_le p.start s && b) (same_end s m later p.end (quiet_end p f))

  same_relation : (l : StoredLine) → In l image.lines
      → relation_at (store_of l) m ≡ relation_at (store_of l) s
  same_relation l i =
      relation_alike s m (store_of l) (λ p j.
      both_or_neither p (λ x n. line_stamp image l i x (key_stamp l p j x n)))
      (λ cells j c n. both_or_neither c.period
      (λ x o. line_stamp image l i x (entry_stamp l cells j c n x o)))

  same_tables : (p : StoredLine → Bool) (lines : List StoredLine)
      → ((l : StoredLine) → In l lines → In l image.lines)
      → map (table_at m) (filter p lines) ≡ map (table_at s) (filter p lines)
  same_tables p [] f = refl
  same_tables p (l ∷ lines) f = step (p l) (same_tables p lines (λ x i. f x (inr i)))
    where
      step : (b : Bool) → map (table_at m) (filter p lines) ≡ map (table_at s) (filter p lines)
          → map (table_at m) (cond b (l ∷ filter p lines) (filter p lines))
          ≡ map (table_at s) (cond b (l ∷ filter p lines) (filter p lines))
      step true rest =
          ap (λ (r : List (List Value)). (l.line.table, Rows r) ∷ map (table_at m) (filter p lines))
          (same_relation l (f l (inl refl)))
          ∙ ap (λ (es : List (List ℕ × DatabaseEntry)). table_at s l ∷ es) rest
      step false rest = rest

  pub same_version : begun_at m image.versions ≡ begun_at s image.versions
  same_version = same_begun s m later image.versions
      (λ v i. quiet_stamp v.stamp (in_left v.stamp (version_stamps image)
      (flat_map line_stamps image.lines) (in_map (λ (w : PlainVersion). w.stamp) v image.versions
      i)))

  pub same_shown : image_database image m ≡ image_database image s
  same_shown =
      ap (λ (vs : List PlainVersion). from_entries
      (map (table_at m) (filter (is_of_version (length vs)) image.lines))) same_version
      ∙ ap (λ (es : List (List ℕ × DatabaseEntry)). from_entries es)
      (same_tables (is_of_version (length (begun_at s image.versions))) image.lines (λ l i. i))

-- ---- none is later than the last

module _ (image : Image) (is : IsImage image) where
  abbrev pub last : ℕ
  last = last_or_nought image.last

  version_up_to : (versions : List PlainVersion) → AllInForce last versions → (v : PlainVersion)
      → In v versions → v.stamp ≤ last
  version_up_to [] h v i = absurd i
  version_up_to (w ∷ versions) h v (inl e) = subst (λ (x : PlainVersion). x.stamp ≤ last) e h.0
  version_up_to (w ∷ versions) h v (inr i) = version_up_to versions h.1 v i

  up_to : (x : ℕ) → x < forever → IsUpTo image.last x → x ≤ last
  up_to x l (inl e) = absurd (omega (arith, l, e))
  up_to x l (inr h) = (let low = h.2 in subst (λ (o : Option ℕ). x ≤ last_or_nought o) (sym h.1)
      low)

  period_up_to : (p : Span) → IsPeriod p → EndsUpTo image.last p → (x : ℕ) → In x (stamps_of p)
      → x ≤ last
  period_up_to p lasting ends x (inl e) = (let l = lasting.0 in let u = lasting.1 in
      subst (λ y. y ≤ last) e (up_to p.start (omega (arith, l, u)) ends.0))
  period_up_to p lasting ends x (inr i) = step (p.end == forever) refl i
    where
      step : (b : Bool) → (p.end == forever) ≡ b → In x (if b then [] else p.end ∷ []) → x ≤ last
      step true e j = absurd j
      step false e (inl q) = (let u = lasting.1 in
          subst (λ y. y ≤ last) q (up_to p.end (grind (arith, nat_tests, e, u)) ends.1))
      step false e (inr j) = absurd j

  line_up_to : (l : StoredLine) → IsStoredLine image.last l → (x : ℕ) → In x (line_stamps l)
      → x ≤ last
  line_up_to l h x i = elim (in_append x (flat_map stamps_of l.keys) (flat_map cell_stamps l.cells)
      i) [
        | inl j ↦ (let p = from_flat_map stamps_of x l.keys j in
            period_up_to p.0 (h.store.lasting p.0 p.1) (h.keys p.0 p.1) x p.2)
        | inr j ↦
            let cells = from_flat_map cell_stamps x l.cells j in
            let c = from_flat_map (λ (d : Cell). stamps_of d.period) x cells.0 cells.2 in
            period_up_to c.0.period ((h.store.filled cells.0 cells.1).lasting c.0 c.1)
            (h.entries cells.0 cells.1 c.0 c.1) x c.2
      ]

  pub stamp_up_to : (x : ℕ) → In x (image_stamps image) → x ≤ last
  stamp_up_to x i = elim (in_append x (version_stamps image) (flat_map line_stamps image.lines)
      (from_stamps image x i).0) [
        | inl j ↦ (let v = from_map (λ (w : PlainVersion). w.stamp) x image.versions j in
            subst (λ y. y ≤ last) v.2 (version_up_to image.versions is.begun v.0 v.1))
        | inr j ↦ (let l = from_flat_map line_stamps x image.lines j in
            line_up_to l.0 (is.each l.0 l.1) x l.2)
      ]
